-- Short-term reference picture sets that are read, as the walk has them (7.4.8).
use Rattle.std.proofs.Common.{◌≡◌, ℕ, zero, suc, ◌+◌, ◌<◌, ℤ, pos, ◌<ℤ◌, Bool, List, [], ◌∷◌, ◌++◌}
use Rattle.std.proofs.Common.{length, map, refl, arith}
use Rattle.std.specs.Prelude.{All, slice_index_or}
use Rattle.std.proofs.Math.Numerals.{add-one}
use Rattle.std.proofs.lemmas.List.{length-append, length-map, map-append}
use Rattle.std.proofs.lemmas.List.Elements.{All-map, All-weaker}
use Rattle.hevc_records.specs.ShortTermRefPicSet.{PlainShortTermRefPicSet}
use Rattle.hevc_walk.specs.Meanings.{ShortTermMember}
use Rattle.hevc_walk.specs.ReferenceLists.{numbers_below}
use Rattle.hevc_walk.specs.Premises.{FallBelow, RiseAbove, IsShortTermRefPicSet}
use Rattle.hevc_walk_inputs.specs.Headers.{short_term_member, short_term_members, short_term_set_of}
use Rattle.hevc_stream_laws.proofs.ShortTermSets.{IsSet}

pub length_below : (n : ℕ) → length (numbers_below n) ≡ n
length_below zero = refl
length_below (suc n) = omega (arith, length-append (numbers_below n) (n ∷ []), length_below n)

abbrev last : ℤ → List ShortTermMember → ℤ
last d [] = d
last d (m ∷ ms) = last m.delta_poc ms

module _ (m : ShortTermMember) where
  last_push : (d : ℤ) (ms : List ShortTermMember) → last d (ms ++ m ∷ []) ≡ m.delta_poc
  last_push d [] = refl
  last_push d (x ∷ ms) = last_push x.delta_poc ms

  fall_push : (d : ℤ) (ms : List ShortTermMember) → FallBelow d ms → m.delta_poc <ℤ last d ms
      → FallBelow d (ms ++ m ∷ [])
  fall_push d [] h below = (below, tt)
  fall_push d (x ∷ ms) h below = (h.0, fall_push x.delta_poc ms h.1 below)

  rise_push : (d : ℤ) (ms : List ShortTermMember) → RiseAbove d ms → last d ms <ℤ m.delta_poc
      → RiseAbove d (ms ++ m ∷ [])
  rise_push d [] h above = (above, tt)
  rise_push d (x ∷ ms) h above = (h.0, rise_push x.delta_poc ms h.1 above)

module _ (ds : List ℤ) (used : List Bool) where
  -- the last of them is the one before n
  last_is : (d : ℤ) (n : ℕ) → last d (short_term_members (suc n) ds used) ≡ slice_index_or ds n (pos 0)
  last_is d n =
      rw (map-append (short_term_member ds used) (numbers_below n) (n ∷ []))
      (last_push (short_term_member ds used n) d (short_term_members n ds used))

  fall : (n : ℕ) → ((k : ℕ) → k < n → slice_index_or ds k (pos 0) <ℤ pos 0)
      → ((k : ℕ) → k + 1 < n → slice_index_or ds (k + 1) (pos 0) <ℤ slice_index_or ds k (pos 0))
      → FallBelow (pos 0) (short_term_members n ds used)
  fall zero below next = tt
  fall (suc zero) below next = (below 0 (omega arith), tt)
  fall (suc (suc n)) below next =
      let before = fall (suc n) (λ k b. below k (omega arith)) (λ k b. next k (omega arith)) in
      let step = rw add-one at (next n (omega arith)) in
      rw (map-append (short_term_member ds used) (numbers_below (suc n)) (suc n ∷ []))
      (fall_push (short_term_member ds used (suc n)) (pos 0) (short_term_members (suc n) ds used) before
      (rw (last_is (pos 0) n) step))

  rise : (n : ℕ) → ((k : ℕ) → k < n → pos 0 <ℤ slice_index_or ds k (pos 0))
      → ((k : ℕ) → k + 1 < n → slice_index_or ds k (pos 0) <ℤ slice_index_or ds (k + 1) (pos 0))
      → RiseAbove (pos 0) (short_term_members n ds used)
  rise zero above next = tt
  rise (suc zero) above next = (above 0 (omega arith), tt)
  rise (suc (suc n)) above next =
      let before = rise (suc n) (λ k b. above k (omega arith)) (λ k b. next k (omega arith)) in
      let step = rw add-one at (next n (omega arith)) in
      rw (map-append (short_term_member ds used) (numbers_below (suc n)) (suc n ∷ []))
      (rise_push (short_term_member ds used (suc n)) (pos 0) (short_term_members (suc n) ds used) before
      (rw (last_is (pos 0) n) step))

  long : (n : ℕ) → length (short_term_members n ds used) ≡ n
  long n = rw length-map (length_below n)

pub walk_set : (s : PlainShortTermRefPicSet) → IsSet s → IsShortTermRefPicSet (short_term_set_of s)
walk_set s is = record {
  few = omega (
    arith,
    is.few,
    long s.delta_poc_s0 s.used_by_curr_pic_s0 s.num_negative_pics,
    long s.delta_poc_s1 s.used_by_curr_pic_s1 s.num_positive_pics,
  );
  negative = fall s.delta_poc_s0 s.used_by_curr_pic_s0 s.num_negative_pics is.falls.below_zero is.falls.falling;
  positive = rise s.delta_poc_s1 s.used_by_curr_pic_s1 s.num_positive_pics is.rises.above_zero is.rises.rising;
}

pub walk_sets : (sets : List PlainShortTermRefPicSet) → All IsSet sets
    → All IsShortTermRefPicSet (map short_term_set_of sets)
walk_sets sets are =
    All-map IsShortTermRefPicSet short_term_set_of sets
    (All-weaker IsSet (λ s. IsShortTermRefPicSet (short_term_set_of s)) walk_set sets are)
