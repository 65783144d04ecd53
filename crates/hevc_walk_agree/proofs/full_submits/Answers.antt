use Rattle.hevc_walk_agree.proofs.Full.{full-calls}
use Rattle.hevc_walk_agree.proofs.full_submits.Goals as goal

pub returns : goal.returns
returns c = full-calls
