use Rattle.std.proofs.lemmas.Bool.Decides.{Decides-at}
use Rattle.hevc_picture_slice.proofs.RecordEquality.{pps}
use Rattle.hevc_picture_slice.proofs.comparisons.pps_eq.Goals as goal

pub returns : goal.returns
returns c = Decides-at _ _ c.eq.ensures (pps _ _)
