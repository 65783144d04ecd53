use Rattle.std.proofs.Common.{◌≡◌, ℕ, ℤ, to_z, of_z, w32, ap, ◌∙◌, rules}
use Rattle.hevc_walk.specs.Pictures.{Head}
use Rattle.hevc_walk_order.specs.DisplayOrder.{latency_pictures}
use Rattle.hevc_check.specs.Late.{late_by}
use Rattle.hevc_check.proofs.sequence.Sequence.is_long_preceded.Goals as goal

pub returns : goal.returns
returns c p es same f =
    let x = c.args.head.now.picture.pic_order_cnt_val in
    let is : to_z w32 (of_z w32 x) ≡ x = search rules in
    let count : x ≡ p.order_count = ap (λ (h : Head). h.order_count) same in
    c.has_higher.ensures es f.so_far
    ∙ ap (λ (k : ℤ). late_by k c.latency_pictures-least.result es) (is ∙ count)
    ∙ ap (λ (n : ℕ). late_by p.order_count n es)
    (c.latency_pictures-least.ensures ∙ ap (λ (h : Head). latency_pictures h.limits) same)
