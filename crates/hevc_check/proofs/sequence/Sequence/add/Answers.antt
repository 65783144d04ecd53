use Rattle.std.proofs.Common.{◌∷◌, ap, ◌∙◌}
use Rattle.std.specs.Ordering.{int_cmp}
use Rattle.std.specs.BTreeSet.{contains}
use Rattle.hevc_check.specs.declared.sequence.Sequence.{Sequence}
use Rattle.hevc_check.proofs.Follow.{follows_more, high_same, highest_same}
use Rattle.hevc_check.proofs.sequence.Sequence.add.Goals as goal

pub returns-clause-follows : goal.returns-clause-follows
returns-clause-follows c p next es same f =
    let q = c.args.self.now in
    let one = c.add_count.new.self in
    let two = c.add_highest.new.self in
    let all = c.add_decoded.new.self in
    let a = c.in_ok-add_count.ensures.others in
    let b = c.in_ok-add_highest.ensures.others in
    let d = c.in_ok-add_decoded.ensures.others in
    let high =
    c.in_ok-add_highest.ensures.highest p es same
    (high_same q one es (ap (λ (s : Sequence). s.limits) a) (ap (λ (s : Sequence). s.highest.items) a)
    f.highest) in
    follows_more p next es q all f
    (ap (λ (s : Sequence). s.table) d ∙ ap (λ (s : Sequence). s.table) b ∙ ap (λ (s : Sequence). s.table) a)
    (ap (λ (s : Sequence). s.limits) d ∙ ap (λ (s : Sequence). s.limits) b ∙ ap (λ (s : Sequence). s.limits) a)
    (ap (λ (s : Sequence). s.format) d ∙ ap (λ (s : Sequence). s.format) b ∙ ap (λ (s : Sequence). s.format) a)
    (λ k. ap (λ (s : Sequence). contains int_cmp s.counts k) d ∙ ap (λ (s : Sequence). contains int_cmp s.counts k) b
    ∙ c.in_ok-add_count.ensures.counts p es same f k)
    (high_same two all (p ∷ es) (ap (λ (s : Sequence). s.limits) d) (ap (λ (s : Sequence). s.highest.items) d) high)
    (c.in_ok-add_decoded.ensures.so_far p es same
    (highest_same es q.so_far two.so_far (ap (λ (s : Sequence). s.so_far) b ∙ ap (λ (s : Sequence). s.so_far) a)
    f.so_far))
