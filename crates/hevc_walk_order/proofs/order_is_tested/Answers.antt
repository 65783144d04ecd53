use Rattle.hevc_walk_order.proofs.Tested.{order-tells, bounds-tell}
use Rattle.hevc_walk_order.proofs.order_is_tested.Goals as goal

pub returns-clause-order : goal.returns-clause-order
returns-clause-order c = order-tells

pub returns-clause-bounds : goal.returns-clause-bounds
returns-clause-bounds c = bounds-tell
