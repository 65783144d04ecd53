use Rattle.std.proofs.Common.{ap, ◌∙◌}
use Rattle.std.specs.Prelude.{◌==◌, not}
use Rattle.hevc_walk.specs.Pictures.{Head}
use Rattle.hevc_check_laws.specs.Breaches.{earlier_in}
use Rattle.hevc_check.proofs.Follow.{latency_bounds, latency_order}
use Rattle.hevc_check.proofs.sequence.Sequence.breaks_latency.Goals as goal

pub returns-in-Bounds : goal.returns-in-Bounds
returns-in-Bounds c set p before same fall f =
    ap (λ (h : Head). not (h.limits.max_latency_increase_plus1 == 0)) same
    ∙ latency_bounds c.args.self.now.table set p before c.in-Bounds.is

pub returns-in-Order : goal.returns-in-Order
returns-in-Order c set p before same fall f =
    c.comes_late.ensures p (earlier_in p before) same f
    ∙ latency_order c.args.self.now.table set p before c.in-Order.is fall
