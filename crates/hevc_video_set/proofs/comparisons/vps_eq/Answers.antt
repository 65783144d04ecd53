use Rattle.std.proofs.lemmas.Bool.Decides.{Decides-at}
use Rattle.hevc_video_set.proofs.RecordEquality.{vps}
use Rattle.hevc_video_set.proofs.comparisons.vps_eq.Goals as goal

pub returns : goal.returns
returns c = Decides-at _ _ c.eq.ensures (vps _ _)
