use Rattle.hevc_walk_agree.proofs.Joined.{verdict-same}
use Rattle.hevc_walk_agree.proofs.same_verdict.Goals as goal

pub returns : goal.returns
returns c = verdict-same
