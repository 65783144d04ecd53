use Rattle.std.proofs.Common.{◌≡◌, ℤ, ◌+◌, [], ◌∷◌, to_z, of_z, w32, ap, sym, ◌∙◌, rules}
use Rattle.std.specs.Prelude.{min}
use Rattle.hevc_walk.specs.Pictures.{Head}
use Rattle.hevc_check.specs.Sequences.{above, output_above}
use Rattle.hevc_check.specs.declared.sequence.Sequence.{Sequence}
use Rattle.hevc_check.proofs.Follow.{high_in, output_more, output_same}
use Rattle.hevc_check.proofs.sequence.Sequence.add_highest.Goals as goal

pub returns-in_ok-keep_if_high-clause-highest : goal.returns-in_ok-keep_if_high-clause-highest
returns-in_ok-keep_if_high-clause-highest c p es same f =
    let q = c.args.self.now in
    let x = c.args.head.now.picture.pic_order_cnt_val in
    let is : to_z w32 (of_z w32 x) ≡ x = search rules in
    let count : x ≡ p.order_count = ap (λ (h : Head). h.order_count) same in
    let shown = sym (c.is_for_output.ensures p same) ∙ c.if-is_for_output.true in
    high_in q c.keep_if_high.new.self (p ∷ es) (ap (λ (s : Sequence). s.limits) c.in_ok-keep_if_high.ensures.others)
    (λ t. c.in_ok-keep_if_high.ensures.highest t (output_above t es) (f t)
    ∙ ap (λ (y : ℤ). min (q.limits.reorder + 1) (above t (y ∷ []) + output_above t es)) (is ∙ count)
    ∙ ap (min (q.limits.reorder + 1)) (sym (output_more t p es shown)))

pub returns-else-is_for_output-clause-highest : goal.returns-else-is_for_output-clause-highest
returns-else-is_for_output-clause-highest c p es same f t =
    let q = c.args.self.now in
    let hidden = sym (c.is_for_output.ensures p same) ∙ c.if-is_for_output.false in
    f t ∙ ap (min (q.limits.reorder + 1)) (sym (output_same t p es hidden))
