use Rattle.std.proofs.Common.{◌≡◌, true, to_z, of_z, w32, ap, sym, ◌∙◌, rules}
use Rattle.std.specs.Ordering.{int_cmp}
use Rattle.std.specs.BTreeSet.{contains}
use Rattle.hevc_walk.specs.Pictures.{Head}
use Rattle.hevc_check.specs.Tables.{is_counted}
use Rattle.hevc_check.proofs.Follow.{counted_more}
use Rattle.hevc_check.proofs.sequence.Sequence.add_count.Goals as goal

pub returns-in_ok-insert-clause-counts : goal.returns-in_ok-insert-clause-counts
returns-in_ok-insert-clause-counts c p es same f k =
    let q = c.args.self.now in
    let x = c.args.head.now.picture.pic_order_cnt_val in
    let is : to_z w32 (of_z w32 x) ≡ x = search rules in
    let count : x ≡ p.order_count = ap (λ (h : Head). h.order_count) same in
    let counted : is_counted q.table p ≡ true = sym (c.is_counted.ensures p same) ∙ c.if-is_counted.true in
    c.in_ok-insert.ensures.updates.0 k
    ∙ counted_more q.table k _ p es (contains int_cmp q.counts k) (is ∙ count) counted (f.counts k)
