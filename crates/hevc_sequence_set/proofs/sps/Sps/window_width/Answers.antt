use Rattle.std.proofs.Common.{rules}
use Rattle.hevc_sequence_set.proofs.sps.Sps.window_width.Goals as goal

pub returns-then-self : goal.returns-then-self
returns-then-self c = search rules
