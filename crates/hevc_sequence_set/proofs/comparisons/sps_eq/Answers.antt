use Rattle.std.proofs.lemmas.Bool.Decides.{Decides-at}
use Rattle.hevc_sequence_set.proofs.RecordEquality.{sps}
use Rattle.hevc_sequence_set.proofs.comparisons.sps_eq.Goals as goal

pub returns : goal.returns
returns c = Decides-at _ _ c.eq.ensures (sps _ _)
