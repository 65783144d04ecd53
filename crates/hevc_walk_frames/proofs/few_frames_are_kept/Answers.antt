use Rattle.hevc_walk_frames.proofs.Frames.{few_frames}
use Rattle.hevc_walk_frames.proofs.few_frames_are_kept.Goals as goal

pub returns : goal.returns
returns c = few_frames
