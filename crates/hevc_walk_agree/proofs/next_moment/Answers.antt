use Rattle.hevc_walk_agree.proofs.Moment.{moment}
use Rattle.hevc_walk_agree.proofs.next_moment.Goals as goal

pub returns : goal.returns
returns c = moment
