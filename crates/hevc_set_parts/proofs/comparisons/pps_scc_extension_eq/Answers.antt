use Rattle.std.proofs.lemmas.Bool.Decides.{Decides-at}
use Rattle.hevc_set_parts.proofs.RecordEquality.{pps_scc_extension}
use Rattle.hevc_set_parts.proofs.comparisons.pps_scc_extension_eq.Goals as goal

pub returns : goal.returns
returns c = Decides-at _ _ c.eq.ensures (pps_scc_extension _ _)
