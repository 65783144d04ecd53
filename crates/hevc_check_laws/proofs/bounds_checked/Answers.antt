use Rattle.hevc_walk_order.proofs.Bounds.{order-by_bounds}
use Rattle.hevc_walk_order.specs.Bounds.{KeepsBounds}
use Rattle.hevc_walk_order.proofs.Law.{law_of_verdict}
use Rattle.hevc_check_laws.proofs.Named.{all-sequences}
use Rattle.hevc_check_laws.proofs.Bounds.{bounds-kept, bounds-unbroken, bounds-kept_by, bounds-answer}
use Rattle.hevc_check_laws.proofs.bounds_checked.Goals as goal

pub returns-clause-kept : goal.returns-clause-kept
returns-clause-kept c = bounds-kept

pub returns-clause-unbroken : goal.returns-clause-unbroken
returns-clause-unbroken c = bounds-unbroken

pub returns-clause-yes : goal.returns-clause-yes
returns-clause-yes c us m n answer = all-sequences us (KeepsBounds us) (bounds-kept_by us m n answer)

pub returns-clause-counts : goal.returns-clause-counts
returns-clause-counts c = bounds-answer

pub returns-clause-outputs : goal.returns-clause-outputs
returns-clause-outputs c us k m n ok answer q is =
    law_of_verdict us k ok q is (order-by_bounds us q (bounds-kept_by us m n answer q is))
