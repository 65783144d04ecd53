use Rattle.std.proofs.Common.{◌≡◌, Bool, List, ◌++◌, [], w32, sym, ap, ◌∙◌, map, filter, not}
use Rattle.std.proofs.lemmas.Int.{to_z-of_z}
use Rattle.std.proofs.lemmas.List.{map-append}
use Rattle.std.proofs.lemmas.List.Elements.{filter-append}
use Rattle.hevc_walk_inputs.specs.Headers.{short_term_members}
use Rattle.hevc_walk.specs.Meanings.{ShortTermMember}
use Rattle.hevc_walk.specs.ReferenceSets.{short_term_entry, is_curr_short_term}
use Rattle.hevc_dpb.specs.Views.{buffer_of}
use Rattle.hevc_refs.proofs.short_term.find_short_term.Goals as goal

from_empty : {X : Type 0} (first now rest : List X) → first ≡ [] → now ≡ first ++ rest → now ≡ rest
from_empty first now rest none is = is ∙ ap (λ l. l ++ rest) none

-- one half after the other
both_halves : {X : Type 0} (f : ShortTermMember → X) (p : ShortTermMember
    → Bool) (xs ys : List ShortTermMember) (first mid now : List X) → first ≡ []
    → mid ≡ first ++ map f (filter p xs) → now ≡ mid ++ map f (filter p ys) → now ≡ map f (filter p (xs ++ ys))
both_halves f p xs ys first mid now none a b =
    b
    ∙ ap (λ l. l ++ map f (filter p ys)) (from_empty first mid (map f (filter p xs)) none a)
    ∙ sym (map-append f (filter p xs) (filter p ys))
    ∙ ap (map f) (sym (filter-append p xs ys))

pub returns-clause-before : goal.returns-clause-before
returns-clause-before g c p is_count =
    from_empty _ _ _ c.clear.ensures
    (c.push_members.ensures.pushed p (to_z-of_z w32 c.args.order_count c.ranges.order_count ∙ is_count))

pub returns-clause-after : goal.returns-clause-after
returns-clause-after g c p is_count =
    from_empty _ _ _ c.clear-2.ensures
    (c.push_members-2.ensures.pushed p (to_z-of_z w32 c.args.order_count c.ranges.order_count ∙ is_count))

pub returns-clause-foll : goal.returns-clause-foll
returns-clause-foll g c p is_count =
    let same = to_z-of_z w32 c.args.order_count c.ranges.order_count ∙ is_count in
    both_halves (short_term_entry p (buffer_of c.args.dpb.now))
    (λ m. not (is_curr_short_term m))
    (short_term_members c.args.set.now.num_negative_pics c.args.set.now.delta_poc_s0
    c.args.set.now.used_by_curr_pic_s0)
    (short_term_members c.args.set.now.num_positive_pics c.args.set.now.delta_poc_s1
    c.args.set.now.used_by_curr_pic_s1) _ _ _ c.clear-3.ensures (c.push_members-3.ensures.pushed p same)
    (c.push_members-4.ensures.pushed p same)
