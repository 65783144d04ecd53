use Rattle.std.proofs.Common.{◌≡◌, Bool, true, false, ◌&&◌, filter, ap, ◌∙◌, sym}
use Rattle.hevc_check_laws.specs.Breaches.{earlier_in}
use Rattle.hevc_check.specs.Sequences.{has_count}
use Rattle.hevc_check.specs.Tables.{is_counted}
use Rattle.hevc_check.proofs.Follow.{counts_by}
use Rattle.hevc_check.proofs.sequence.Sequence.repeats_count.Goals as goal

pub returns-then-is_counted : goal.returns-then-is_counted
returns-then-is_counted c set p before same f =
    let t = c.args.self.now.table in
    let counted : is_counted t p ≡ true = sym (c.is_counted.ensures p same) ∙ c.if-is_counted.true in
    c.has_count.ensures p (earlier_in p before) same f
    ∙ ap (λ (b : Bool). b && has_count p.order_count (filter (is_counted t) (earlier_in p before))) (sym counted)
    ∙ counts_by t set p before

pub returns-else-is_counted : goal.returns-else-is_counted
returns-else-is_counted c set p before same f =
    let t = c.args.self.now.table in
    let counted : is_counted t p ≡ false = sym (c.is_counted.ensures p same) ∙ c.if-is_counted.false in
    c.if-is_counted.false
    ∙ ap (λ (b : Bool). b && has_count p.order_count (filter (is_counted t) (earlier_in p before))) (sym counted)
    ∙ counts_by t set p before
