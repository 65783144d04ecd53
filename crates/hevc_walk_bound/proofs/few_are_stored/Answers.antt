use Rattle.hevc_walk_bound.proofs.Bound.{stores_few}
use Rattle.hevc_walk_bound.proofs.few_are_stored.Goals as goal

pub returns : goal.returns
returns c = stores_few
