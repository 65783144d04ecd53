use Rattle.std.proofs.Common.{rules}
use Rattle.hevc_bumping.proofs.rule.Rule.holds.Goals as goal

pub returns-in-ForRoom : goal.returns-in-ForRoom
returns-in-ForRoom g c = search rules
