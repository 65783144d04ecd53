use Rattle.std.proofs.lemmas.Bool.Decides.{Decides-at}
use Rattle.hevc_video_set.proofs.RecordEquality.{hrd_params}
use Rattle.hevc_video_set.proofs.comparisons.hrd_params_eq.Goals as goal

pub returns : goal.returns
returns c = Decides-at _ _ c.eq.ensures (hrd_params _ _)
