use Rattle.std.proofs.Common.{rules}
use Rattle.hevc_dpb.proofs.bumping.is_bumping_due.Goals as goal

pub returns-else-is_additional_due : goal.returns-else-is_additional_due
returns-else-is_additional_due g c = search rules
