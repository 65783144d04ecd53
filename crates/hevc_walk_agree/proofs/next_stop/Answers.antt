use Rattle.hevc_walk_agree.proofs.Ends.{stop-last}
use Rattle.hevc_walk_agree.proofs.Joined.{refusal-same}
use Rattle.hevc_walk_agree.proofs.next_stop.Goals as goal

pub returns-clause-same : goal.returns-clause-same
returns-clause-same c = refusal-same

pub returns-clause-last : goal.returns-clause-last
returns-clause-last c = stop-last
