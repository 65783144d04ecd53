-- The differences of a set and 0 are distinct.
use Rattle.std.proofs.Common.{◌≡◌, ◌+◌, List, [], ◌∷◌, ◌++◌, length, take, sym, subst, arith, inl, inr, append_assoc}
use Rattle.std.specs.Prelude.{ℤ, pos, negsuc, ◌<ℤ◌, ◌≤ℤ◌}
use Rattle.std.proofs.lemmas.Int.{ints}
use Rattle.std.proofs.lemmas.List.{length-append, length-take-le}
use Rattle.hevc_set_parts.specs.declared.short_term_ref_pic_set.ShortTermRefPicSet.{ShortTermRefPicSet}
use Rattle.hevc_set_parts.specs.ShortTermRefPicSet.{plain_short_term_ref_pic_set}
use Rattle.hevc_tables.specs.ShortTermTable.{differences}
use Rattle.hevc_short_term_laws.specs.Orders.{AllAbove, AllBelow, Rises, Falls}
use Rattle.hevc_short_term_laws.proofs.OrderLaws.{AllAbove-append, AllAbove-weaken, falls_from, rises_from}
use Rattle.hevc_write_short_term.proofs.Chosen.{In, Distinct, in_append}

-- each of them is below
below_in : (b d : ℤ) (ds : List ℤ) → AllBelow b ds → In d ds → d <ℤ b
below_in b d [] h i = absurd i
below_in b d (e ∷ ds) h (inl same) = rw same h.0
below_in b d (e ∷ ds) h (inr i) = below_in b d ds h.1 i

-- each of them is above
above_in : (b d : ℤ) (ds : List ℤ) → AllAbove b ds → In d ds → b <ℤ d
above_in b d [] h i = absurd i
above_in b d (e ∷ ds) h (inl same) = rw same h.0
above_in b d (e ∷ ds) h (inr i) = above_in b d ds h.1 i

-- no number is below itself
not_below_itself : (d : ℤ) → d <ℤ d → ⊥
not_below_itself d h = omega (arith, ints, h)

-- rising differences above 0 are distinct, with 0
distinct_after : (ds : List ℤ) → AllAbove (pos 0) ds → Rises ds → Distinct (ds ++ pos 0 ∷ [])
distinct_after [] above rises = ((λ i. i), tt)
distinct_after (d ∷ ds) above rises = (
  (λ i. elim (in_append d ds (pos 0 ∷ []) i) [
    | inl here ↦ not_below_itself d (above_in d d ds rises.0 here)
    | inr (inl zero) ↦ not_below_itself d (rw (sym zero) at above.0)
    | inr (inr none) ↦ none
  ]),
  distinct_after ds above.1 rises.1,
)

-- so are falling ones below 0, with others above
distinct_before : (ds rest : List ℤ) → AllBelow (pos 0) ds → Falls ds → AllAbove (negsuc 0) rest
    → Distinct rest → Distinct (ds ++ rest)
distinct_before [] rest below falls above apart = apart
distinct_before (d ∷ ds) rest below falls above apart = (
  (λ i. elim (in_append d ds rest i) [
    | inl here ↦ not_below_itself d (below_in d d ds falls.0 here)
    | inr there ↦ between (above_in (negsuc 0) d rest above there) below.0
  ]),
  distinct_before ds rest below.1 falls.1 above apart,
)
  where
    between : negsuc 0 <ℤ d → d <ℤ pos 0 → ⊥
    between low high = omega (arith, ints, low, high)

module _ (s : ShortTermRefPicSet) (long_before : length s.delta_poc_s0 ≡ 16)
    (long_after : length s.delta_poc_s1 ≡ 16) where
  -- the differences of a set are distinct, with that of its own picture
  pub apart : Distinct (differences (plain_short_term_ref_pic_set s) ++ pos 0 ∷ [])
  unfolding differences
  apart =
      let before = falls_from s.num_negative_pics s.delta_poc_s0 (omega arith) s.negatives in
      let after = rises_from s.num_positive_pics s.delta_poc_s1 (omega arith) s.positives in
      let low : negsuc 0 <ℤ pos 0 = grind arith in
      let down : negsuc 0 ≤ℤ pos 0 = grind arith in
      let above = AllAbove-append (negsuc 0) (take s.num_positive_pics s.delta_poc_s1) (pos 0 ∷ [])
      (AllAbove-weaken (pos 0) (negsuc 0) _ down after.0) (low, tt) in
      subst Distinct
      (sym (append_assoc (take s.num_negative_pics s.delta_poc_s0) (take s.num_positive_pics s.delta_poc_s1)
      (pos 0 ∷ [])))
      (distinct_before _ _ before.0 before.1 above (distinct_after _ after.0 after.1))

  -- there are as many as the set counts, and one
  pub many : length (differences (plain_short_term_ref_pic_set s) ++ pos 0 ∷ []) ≡ s.num_delta_pocs + 1
  unfolding differences
  many =
      let before : length (take s.num_negative_pics s.delta_poc_s0) ≡ s.num_negative_pics =
      length-take-le _ _ (omega arith) in
      let after : length (take s.num_positive_pics s.delta_poc_s1) ≡ s.num_positive_pics =
      length-take-le _ _ (omega arith) in
      rw (length-append, length-append) (omega (arith, before, after, s.sum))
