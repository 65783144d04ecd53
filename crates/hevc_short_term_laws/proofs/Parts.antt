-- Members on either side of the current picture.
use Rattle.std.proofs.Common.{◌≡◌, ℕ, zero, suc, ◌+◌, ◌<◌, ◌≤◌, ℤ, pos, Bool, true, false, cond}
use Rattle.std.proofs.Common.{List, [], ◌∷◌, length, reverse, get_or, filter, refl, arith, IsTrue}
use Rattle.std.specs.Prelude.{int_lt}
use Rattle.std.specs.List.{list_all}
use Rattle.std.proofs.lemmas.Bool.Decides.{nat_tests}
use Rattle.std.proofs.lemmas.List.{length-reverse}
use Rattle.hevc_tables.specs.declared.short_term_member.ShortTermMember.{ShortTermMember}
use Rattle.hevc_tables.specs.ShortTermTable.{deltas, is_i32, members_before, members_after, has_room}
use Rattle.hevc_short_term_laws.specs.Orders.{AllAbove, AllBelow, Rises}
use Rattle.hevc_short_term_laws.specs.Sides.{LieBefore, LieAfter}
use Rattle.hevc_short_term_laws.proofs.OrderLaws.{reverse-cons, map-reverse, AllBelow-reverse, Falls-reverse}
use Rattle.hevc_short_term_laws.proofs.Listed.{list_all-append}

-- ---- what a filter keeps

AllAbove-filter : (p : ShortTermMember → Bool) (b : ℤ) (ms : List ShortTermMember) → AllAbove b (deltas ms)
    → AllAbove b (deltas (filter p ms))
AllAbove-filter p b [] h = tt
AllAbove-filter p b (m ∷ ms) h =
    elim (p m) as
    (λ v. AllAbove b (deltas (cond v (m ∷ filter p ms) (filter p ms))))
    [ true ↦ (h.0, AllAbove-filter p b ms h.1) | false ↦ AllAbove-filter p b ms h.1 ]

Rises-filter : (p : ShortTermMember → Bool) (ms : List ShortTermMember) → Rises (deltas ms)
    → Rises (deltas (filter p ms))
Rises-filter p [] h = tt
Rises-filter p (m ∷ ms) h =
    elim (p m) as
    (λ v. Rises (deltas (cond v (m ∷ filter p ms) (filter p ms))))
    [ true ↦ (AllAbove-filter p m.delta_poc ms h.0, Rises-filter p ms h.1) | false ↦ Rises-filter p ms h.1 ]

list_all-filter : (q : ℤ → Bool) (p : ShortTermMember → Bool) (ms : List ShortTermMember)
    → IsTrue (list_all q (deltas ms)) → IsTrue (list_all q (deltas (filter p ms)))
list_all-filter q p [] h = h
list_all-filter q p (m ∷ ms) h =
    let first : q m.delta_poc ≡ true = grind (arith, h) in
    let rest : IsTrue (list_all q (deltas ms)) = grind (arith, h) in
    elim (p m) as
    (λ v. IsTrue (list_all q (deltas (cond v (m ∷ filter p ms) (filter p ms)))))
    [ true ↦ rw first (list_all-filter q p ms rest) | false ↦ list_all-filter q p ms rest ]

list_all-reverse : (q : ℤ → Bool) (ds : List ℤ) → IsTrue (list_all q ds) → IsTrue (list_all q (reverse ds))
list_all-reverse q [] h = h
list_all-reverse q (d ∷ ds) h =
    rw (reverse-cons d ds)
    (list_all-append q (reverse ds) (d ∷ []) (list_all-reverse q ds (grind (arith, h))) (grind (arith, h)))

negative_below : (ms : List ShortTermMember) → AllBelow (pos 0) (deltas (filter (λ m. int_lt m.delta_poc (pos 0)) ms))
negative_below [] = tt
negative_below (m ∷ ms) = by_sign (negative_below ms) (int_lt m.delta_poc (pos 0)) refl
  where
    by_sign : AllBelow (pos 0) (deltas (filter (λ n. int_lt n.delta_poc (pos 0)) ms)) → (v : Bool)
        → int_lt m.delta_poc (pos 0) ≡ v
        → AllBelow (pos 0)
        (deltas (cond v (m ∷ filter (λ n. int_lt n.delta_poc (pos 0)) ms)
        (filter (λ n. int_lt n.delta_poc (pos 0)) ms)))
    by_sign rest true e = (grind (arith, e), rest)
    by_sign rest false e = rest

positive_above : (ms : List ShortTermMember) → AllAbove (pos 0) (deltas (filter (λ m. int_lt (pos 0) m.delta_poc) ms))
positive_above [] = tt
positive_above (m ∷ ms) = by_sign (positive_above ms) (int_lt (pos 0) m.delta_poc) refl
  where
    by_sign : AllAbove (pos 0) (deltas (filter (λ n. int_lt (pos 0) n.delta_poc) ms)) → (v : Bool)
        → int_lt (pos 0) m.delta_poc ≡ v
        → AllAbove (pos 0)
        (deltas (cond v (m ∷ filter (λ n. int_lt (pos 0) n.delta_poc) ms)
        (filter (λ n. int_lt (pos 0) n.delta_poc) ms)))
    by_sign rest true e = (grind (arith, e), rest)
    by_sign rest false e = rest

module _ (ms : List ShortTermMember) (rises : Rises (deltas ms)) (fit : IsTrue (list_all is_i32 (deltas ms))) where
  pub lie_before : LieBefore (members_before ms)
  unfolding members_before
  lie_before =
      let kept = filter (λ (m : ShortTermMember). int_lt m.delta_poc (pos 0)) ms in
      let same = map-reverse (λ (m : ShortTermMember). m.delta_poc) kept in
      record {
        negative = rw same (AllBelow-reverse (pos 0) (deltas kept) (negative_below ms));
        falling = rw same (Falls-reverse (deltas kept) (Rises-filter (λ m. int_lt m.delta_poc (pos 0)) ms rises));
        fit = rw same
            (list_all-reverse is_i32 (deltas kept) (list_all-filter is_i32 (λ m. int_lt m.delta_poc (pos 0)) ms fit));
      }

  pub lie_after : LieAfter (members_after ms)
  unfolding members_after
  lie_after = record {
    positive = positive_above ms;
    rising = Rises-filter (λ m. int_lt (pos 0) m.delta_poc) ms rises;
    fit = list_all-filter is_i32 (λ m. int_lt (pos 0) m.delta_poc) ms fit;
  }

-- ---- their number

sides_length : (ms : List ShortTermMember)
    → length (filter (λ m. int_lt m.delta_poc (pos 0)) ms) + length
    (filter (λ m. int_lt (pos 0) m.delta_poc) ms) ≤ length ms
sides_length [] = omega arith
sides_length (m ∷ ms) = by_signs (sides_length ms) (int_lt m.delta_poc (pos 0)) (int_lt (pos 0) m.delta_poc) refl refl
  where
    by_signs : length (filter (λ n. int_lt n.delta_poc (pos 0)) ms) + length
        (filter (λ n. int_lt (pos 0) n.delta_poc) ms) ≤ length ms → (v w : Bool)
        → int_lt m.delta_poc (pos 0) ≡ v → int_lt (pos 0) m.delta_poc ≡ w
        → length (cond v (m ∷ filter (λ n. int_lt n.delta_poc (pos 0)) ms)
        (filter (λ n. int_lt n.delta_poc (pos 0)) ms)) + length
        (cond w (m ∷ filter (λ n. int_lt (pos 0) n.delta_poc) ms)
        (filter (λ n. int_lt (pos 0) n.delta_poc) ms)) ≤ suc (length ms)
    by_signs rest true true e f = absurd (grind (arith, e, f))
    by_signs rest true false e f = omega arith
    by_signs rest false true e f = omega arith
    by_signs rest false false e f = omega arith

pub sides_fit : (ms : List ShortTermMember) → length (members_before ms) + length (members_after ms) ≤ length ms
unfolding members_before members_after
sides_fit ms = rw (length-reverse (filter (λ (m : ShortTermMember). int_lt m.delta_poc (pos 0)) ms)) (sides_length ms)

pub room_few : (ms : List ShortTermMember) → has_room ms ≡ true → length ms ≤ 16
unfolding has_room
room_few ms h = grind (arith, nat_tests, h)

pub room_fit : (ms : List ShortTermMember) → has_room ms ≡ true → IsTrue (list_all is_i32 (deltas ms))
unfolding has_room
room_fit ms h = grind (arith, nat_tests, h)

pub ruleset room = (room_few, room_fit, sides_fit)

pub fit_at : (ms : List ShortTermMember) (i : ℕ) (d : ShortTermMember) → i < length ms
    → IsTrue (list_all is_i32 (deltas ms)) → is_i32 (get_or ms i d).delta_poc ≡ true
fit_at [] i d below h = absurd (omega arith)
fit_at (m ∷ ms) zero d below h = grind (arith, h)
fit_at (m ∷ ms) (suc i) d below h = fit_at ms i d (omega arith) (grind (arith, h))

pub ruleset parts = (lie_before, lie_after)
