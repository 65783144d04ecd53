use Rattle.std.proofs.lemmas.Bool.Decides.{Decides-at}
use Rattle.hevc_video_set.proofs.RecordEquality.{sublayer_hrd_parameters}
use Rattle.hevc_video_set.proofs.comparisons.sublayer_hrd_parameters_eq.Goals as goal

pub returns : goal.returns
returns c = Decides-at _ _ c.eq.ensures (sublayer_hrd_parameters _ _)
