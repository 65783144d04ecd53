use Rattle.std.proofs.lemmas.Bool.Decides.{Decides-at}
use Rattle.hevc_video_set.proofs.RecordEquality.{vui_params}
use Rattle.hevc_video_set.proofs.comparisons.vui_params_eq.Goals as goal

pub returns : goal.returns
returns c = Decides-at _ _ c.eq.ensures (vui_params _ _)
