use Rattle.hevc_walk_order.proofs.Bounds.{order-by_bounds}
use Rattle.hevc_walk_order.proofs.Law.{law_of_verdict}
use Rattle.hevc_walk_order.proofs.bounds_keep_order.Goals as goal

pub returns-clause-order : goal.returns-clause-order
returns-clause-order c = order-by_bounds

pub returns-clause-outputs : goal.returns-clause-outputs
returns-clause-outputs c us n ok q is bounds = law_of_verdict us n ok q is (order-by_bounds us q bounds)
