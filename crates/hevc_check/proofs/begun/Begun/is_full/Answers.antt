use Rattle.std.proofs.Common.{rules}
use Rattle.hevc_check.proofs.begun.Begun.is_full.Goals as goal

pub returns-then-not-self-2 : goal.returns-then-not-self-2
returns-then-not-self-2 c = search rules
