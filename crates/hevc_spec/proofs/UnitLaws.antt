-- The units from a place on: the first of them, and those after it.
use Rattle.std.proofs.Common.{◌≡◌, ℕ, zero, suc, ◌+◌, ◌-◌, ◌<◌, ◌≤◌, Bool, true, false, eqb, List}
use Rattle.std.proofs.Common.{[], ◌∷◌, length, take, drop, refl, ap, sym, ◌∙◌, arith}
use Rattle.std.proofs.Math.Seq.{drop-nil}
use Rattle.std.proofs.Math.ListN.{drop_of_length-le, length-drop}
use Rattle.std.specs.Prelude.{◌&&◌}
use Rattle.std.proofs.lemmas.Bool.{eqb-true, and_parts}
use Rattle.hevc_spec.specs.Units.{begins_with_start_code, before_start_code, without_trailing_zeros}
use Rattle.hevc_spec.specs.Units.{units_at, units_from}

-- there is no start code from one place of a stream up to another
abbrev pub NoStartCode : List ℕ → ℕ → ℕ → Type 0
NoStartCode stream from to = (k : ℕ) → from ≤ k → k < to → begins_with_start_code (drop k stream) ≡ false

pub drop-drop : {A : Type 0} (n m : ℕ) (xs : List A) → drop m (drop n xs) ≡ drop (n + m) xs
drop-drop zero m xs = let e : 0 + m ≡ m = omega arith in rw e refl
drop-drop (suc n) m [] = drop-nil m ∙ sym (drop-nil (suc n + m))
drop-drop (suc n) m (x ∷ xs) = let e : suc n + m ≡ suc (n + m) = omega arith in rw e (drop-drop n m xs)

-- ---- one place

module _ (kept : List ℕ → List ℕ) where
  units_at-other : (place : ℕ) (xs : List ℕ) → begins_with_start_code xs ≡ false
      → units_at kept place xs ≡ units_at kept (place + 1) (drop 1 xs)
  units_at-other place [] e = refl
  units_at-other place (x ∷ xs) e = rw e refl

  units_at-start : (place : ℕ) (xs : List ℕ) → begins_with_start_code xs ≡ true
      → units_at kept place xs ≡ record {
        offset = place + 3;
        bytes = kept (without_trailing_zeros (before_start_code (drop 3 xs)));
      } ∷ units_at kept (place + 1) (drop 1 xs)
  units_at-start place [] e = absurd cc
  units_at-start place (x ∷ xs) e = rw e refl

  units_from-other : (stream : List ℕ) (place : ℕ) → begins_with_start_code (drop place stream) ≡ false
      → units_from kept place stream ≡ units_from kept (place + 1) stream
  unfolding units_from
  units_from-other stream place e = units_at-other place (drop place stream) e
      ∙ ap (units_at kept (place + 1)) (drop-drop place 1 stream)

  units_from-start : (stream : List ℕ) (place : ℕ) → begins_with_start_code (drop place stream) ≡ true
      → units_from kept place stream ≡ record {
        offset = place + 3;
        bytes = kept (without_trailing_zeros (before_start_code (drop (place + 3) stream)));
      } ∷ units_from kept (place + 1) stream
  unfolding units_from
  units_from-start stream place e =
      let one = drop-drop place 1 stream in
      let three = drop-drop place 3 stream in
      units_at-start place (drop place stream) e ∙ rw (one, three) refl

  -- ---- places without a start code

  units_from-past : (stream : List ℕ) (n from to : ℕ) → from + n ≡ to → NoStartCode stream from to
      → units_from kept from stream ≡ units_from kept to stream
  units_from-past stream zero from to e none = ap (λ (k : ℕ). units_from kept k stream) (omega arith)
  units_from-past stream (suc n) from to e none =
      units_from-other stream from (none from (omega arith) (omega arith))
      ∙ units_from-past stream n (from + 1) to (omega arith) (λ k low high. none k (omega arith) high)

  pub units_from-skip : (stream : List ℕ) (from to : ℕ) → from ≤ to → NoStartCode stream from to
      → units_from kept from stream ≡ units_from kept to stream
  units_from-skip stream from to le none = units_from-past stream (to - from) from to (omega arith) none

  units_from-length : (stream : List ℕ) → units_from kept (length stream) stream ≡ []
  unfolding units_from
  units_from-length stream = let e : drop (length stream) stream ≡ [] =
      drop_of_length-le stream (omega arith) in rw e refl

  pub units_from-none : (stream : List ℕ) (from : ℕ) → from ≤ length stream
      → NoStartCode stream from (length stream) → units_from kept from stream ≡ []
  units_from-none stream from le none = units_from-skip stream from (length stream) le none ∙ units_from-length stream

-- ---- the bytes of a unit

before_start_code-at : (n : ℕ) (xs : List ℕ) → n ≤ length xs
    → ((k : ℕ) → k < n → begins_with_start_code (drop k xs) ≡ false)
    → (n < length xs → begins_with_start_code (drop n xs) ≡ true)
    → before_start_code xs ≡ take n xs
before_start_code-at zero [] le none ends = refl
before_start_code-at zero (x ∷ xs) le none ends = let e : begins_with_start_code (x ∷ xs) ≡ true =
    ends (omega arith) in rw e refl
before_start_code-at (suc n) [] le none ends = absurd (omega arith)
before_start_code-at (suc n) (x ∷ xs) le none ends =
    let e : begins_with_start_code (x ∷ xs) ≡ false = none 0 (omega arith) in
    let rest = before_start_code-at n xs (omega arith) (λ k lt. none (suc k) (omega arith))
    (λ lt. ends (omega arith)) in
    rw (e, rest) refl

-- two start codes don't overlap
overlap_one : (xs : List ℕ) → begins_with_start_code xs ≡ true → begins_with_start_code (drop 1 xs) ≡ false
overlap_one [] e = absurd cc
overlap_one (_ ∷ []) e = absurd cc
overlap_one (_ ∷ _ ∷ []) e = absurd cc
overlap_one (a ∷ b ∷ c ∷ []) e = refl
overlap_one (a ∷ b ∷ c ∷ d ∷ rest) e =
    let one : c ≡ 1 = eqb-true c 1 ((and_parts _ _ e).1) in
    rw one (nothing (eqb b 0))
  where
    nothing : (t : Bool) → ((t && false) && eqb d 1) ≡ false
    nothing true = refl
    nothing false = refl

overlap_two : (xs : List ℕ) → begins_with_start_code xs ≡ true → begins_with_start_code (drop 2 xs) ≡ false
overlap_two [] e = absurd cc
overlap_two (_ ∷ []) e = absurd cc
overlap_two (_ ∷ _ ∷ []) e = absurd cc
overlap_two (a ∷ b ∷ c ∷ []) e = refl
overlap_two (a ∷ b ∷ c ∷ d ∷ []) e = refl
overlap_two (a ∷ b ∷ c ∷ d ∷ f ∷ rest) e =
    let one : c ≡ 1 = eqb-true c 1 ((and_parts _ _ e).1) in
    rw one refl

-- ---- the first unit

module _ (kept : List ℕ → List ℕ) (stream : List ℕ) (start end : ℕ)
    (stands : begins_with_start_code (drop start stream) ≡ true) (low : start + 3 ≤ end) (high : end ≤ length stream)
    (none : NoStartCode stream (start + 3) end) (ends : end < length stream
    → begins_with_start_code (drop end stream) ≡ true) where
  none_behind : NoStartCode stream (start + 1) end
  none_behind k from to = by_place (k - (start + 1)) (omega arith)
    where
      by_place : (j : ℕ) → k ≡ start + 1 + j → begins_with_start_code (drop k stream) ≡ false
      by_place zero e =
          let is : k ≡ start + 1 = omega arith in
          rw (is, ← drop-drop start 1 stream) (overlap_one (drop start stream) stands)
      by_place (suc zero) e =
          let is : k ≡ start + 2 = omega arith in
          rw (is, ← drop-drop start 2 stream) (overlap_two (drop start stream) stands)
      by_place (suc (suc j)) e = none k (omega arith) to

  unit_bytes : before_start_code (drop (start + 3) stream) ≡ take (end - (start + 3)) (drop (start + 3) stream)
  unit_bytes =
      let long = length-drop (start + 3) stream in
      before_start_code-at (end - (start + 3)) (drop (start + 3) stream) (omega arith)
      (λ k lt. rw (drop-drop (start + 3) k stream) (none (start + 3 + k) (omega arith) (omega arith)))
      (λ lt. let e : start + 3 + (end - (start + 3)) ≡ end = omega arith in
      rw (drop-drop (start + 3) (end - (start + 3)) stream, e) (ends (omega arith)))

  -- The first unit, and the units after any part of it.
  pub units_from-first : (from size : ℕ) → from ≤ start → NoStartCode stream from start → start + 3 + size ≤ end
      → units_from kept from stream ≡ record {
        offset = start + 3;
        bytes = kept (without_trailing_zeros (take (end - (start + 3)) (drop (start + 3) stream)));
      } ∷ units_from kept (start + 3 + size) stream
  units_from-first from size before first within =
      let behind = units_from-skip kept stream (start + 1) (start + 3 + size) (omega arith)
      (λ k a b. none_behind k a (omega arith)) in
      units_from-skip kept stream from start before first ∙ units_from-start kept stream start stands
      ∙ rw (unit_bytes, behind) refl
