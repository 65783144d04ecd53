use Rattle.hevc_walk_agree.proofs.Order.{calls-parted, outputs-parted}
use Rattle.hevc_walk_agree.proofs.in_unit_order.Goals as goal

pub returns-clause-calls : goal.returns-clause-calls
returns-clause-calls c = calls-parted

pub returns-clause-outputs : goal.returns-clause-outputs
returns-clause-outputs c = outputs-parted
