use Rattle.std.proofs.lemmas.Bool.Decides.{Decides-at}
use Rattle.hevc_pictures.proofs.RecordEquality.{picture_data}
use Rattle.hevc_pictures.proofs.comparisons.picture_data_eq.Goals as goal

pub returns : goal.returns
returns c = Decides-at _ _ c.eq.ensures (picture_data _ _)
