use Rattle.std.proofs.lemmas.Bool.Decides.{Decides-at}
use Rattle.hevc_sequence_set.proofs.RecordEquality.{sps_scc_extension}
use Rattle.hevc_sequence_set.proofs.comparisons.sps_scc_extension_eq.Goals as goal

pub returns : goal.returns
returns c = Decides-at _ _ c.eq.ensures (sps_scc_extension _ _)
