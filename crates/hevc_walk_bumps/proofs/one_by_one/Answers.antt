use Rattle.std.specs.Prelude.{take}
use Rattle.hevc_walk.specs.Buffer.{in_output_order}
use Rattle.hevc_walk_bumps.proofs.Bumps.{one_more, over, none_left_waiting, order_after_one, distinct_after}
use Rattle.hevc_walk_bumps.proofs.one_by_one.Goals as goal

pub returns-clause-more : goal.returns-clause-more
returns-clause-more c = one_more

pub returns-clause-over : goal.returns-clause-over
returns-clause-over c = over

pub returns-clause-none : goal.returns-clause-none
returns-clause-none c = none_left_waiting

pub returns-clause-order : goal.returns-clause-order
returns-clause-order c = order_after_one

pub returns-clause-distinct : goal.returns-clause-distinct
returns-clause-distinct c es d = distinct_after (take 1 (in_output_order es)) es d
