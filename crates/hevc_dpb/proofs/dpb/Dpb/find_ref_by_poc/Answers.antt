use Rattle.std.proofs.Common.{rules}
use Rattle.hevc_dpb.proofs.dpb.Dpb.find_ref_by_poc.Goals as goal

pub returns : goal.returns
returns g c = search rules
