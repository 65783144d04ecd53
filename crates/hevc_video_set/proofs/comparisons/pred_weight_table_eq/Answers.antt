use Rattle.std.proofs.lemmas.Bool.Decides.{Decides-at}
use Rattle.hevc_video_set.proofs.RecordEquality.{pred_weight_table}
use Rattle.hevc_video_set.proofs.comparisons.pred_weight_table_eq.Goals as goal

pub returns : goal.returns
returns c = Decides-at _ _ c.eq.ensures (pred_weight_table _ _)
