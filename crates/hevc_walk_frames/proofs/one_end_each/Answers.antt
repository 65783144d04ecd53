use Rattle.hevc_walk_frames.proofs.Ends.{one_end}
use Rattle.hevc_walk_frames.proofs.one_end_each.Goals as goal

pub returns : goal.returns
returns c = one_end
