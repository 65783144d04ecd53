use Rattle.std.proofs.Common.{rules}
use Rattle.hevc_dpb.proofs.entry.DpbEntry.is_late.Goals as goal

pub returns-then-self : goal.returns-then-self
returns-then-self g c = search rules
