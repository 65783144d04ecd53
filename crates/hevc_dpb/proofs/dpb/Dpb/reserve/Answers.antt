use Rattle.std.proofs.Common.{rules}
use Rattle.hevc_dpb.proofs.dpb.Dpb.reserve.Goals as goal

pub returns-clause-full : goal.returns-clause-full
returns-clause-full g c = search rules
