use Rattle.std.proofs.Common.{sym, ◌∙◌}
use Rattle.hevc_walk_order.proofs.Bounds.{order-by_bounds}
use Rattle.hevc_check_laws.proofs.Bounds.{bounds-kept_by, bounds-answer}
use Rattle.hevc_walk_order.specs.Bounds.{KeepsBounds}
use Rattle.hevc_walk_order.specs.DisplayOrder.{KeepsOrder}
use Rattle.hevc_walk_order.proofs.Law.{law_of_verdict}
use Rattle.hevc_check_laws.proofs.Named.{all-sequences}
use Rattle.hevc_check_laws.proofs.Order.{order-kept, order-unbroken, order-kept_by, order-answer}
use Rattle.hevc_check_laws.proofs.order_checked.Goals as goal

pub returns-clause-kept : goal.returns-clause-kept
returns-clause-kept c = order-kept

pub returns-clause-unbroken : goal.returns-clause-unbroken
returns-clause-unbroken c = order-unbroken

pub returns-clause-yes : goal.returns-clause-yes
returns-clause-yes c us m n answer = all-sequences us (KeepsOrder us) (order-kept_by us m n answer)

pub returns-clause-counts : goal.returns-clause-counts
returns-clause-counts c = order-answer

pub returns-clause-outputs : goal.returns-clause-outputs
returns-clause-outputs c us k m n ok answer q is = law_of_verdict us k ok q is (order-kept_by us m n answer q is)

pub returns-clause-bounds : goal.returns-clause-bounds
returns-clause-bounds c us m n answer =
    order-answer us
    (all-sequences us (KeepsOrder us) (λ q is. order-by_bounds us q (bounds-kept_by us m n answer q is)))
    ∙ sym (bounds-answer us (all-sequences us (KeepsBounds us) (bounds-kept_by us m n answer)))
    ∙ answer
