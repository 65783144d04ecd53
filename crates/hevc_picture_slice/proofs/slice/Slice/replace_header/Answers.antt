use Rattle.std.proofs.Common.{rules}
use Rattle.hevc_picture_slice.proofs.slice.Slice.replace_header.Goals as goal

pub returns-then-not-self-clause-unchanged : goal.returns-then-not-self-clause-unchanged
returns-then-not-self-clause-unchanged c = search rules
