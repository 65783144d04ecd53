-- A stream may be cut before a start code: its units are those of the two parts.
use Rattle.std.proofs.Common.{◌≡◌, ℕ, ◌+◌, Bool, true, false, List, [], ◌∷◌, ◌++◌, drop, length}
use Rattle.std.proofs.Common.{refl, ◌∙◌, ap, arith, if◌then◌else◌, ◌==◌, zero-add}
use Rattle.std.specs.Prelude.{◌&&◌}
use Rattle.std.proofs.lemmas.Bool.{eqb-true, and_parts}
use Rattle.hevc_spec.specs.Units.{NalUnit, begins_with_start_code, before_start_code}
use Rattle.hevc_spec.specs.Units.{without_trailing_zeros, units_at, units_from, units, kept_bytes}

-- ---- start codes

ends_false : (p q : Bool) → (p && q && false) ≡ false
ends_false true true = refl
ends_false true false = refl
ends_false false q = refl

-- no start code begins in bytes and ends in a start code after them
none_across : (x : ℕ) (xs ys : List ℕ) → begins_with_start_code ys ≡ true
    → begins_with_start_code (x ∷ xs ++ ys) ≡ begins_with_start_code (x ∷ xs)
none_across x (y ∷ z ∷ xs) ys e = refl
none_across x [] [] e = refl
none_across x [] (a ∷ []) e = refl
none_across x [] (a ∷ b ∷ []) e = absurd (cc e)
none_across x [] (a ∷ b ∷ c ∷ ys) e =
    let two = and_parts _ _ (and_parts _ _ e).0 in
    let zero : b ≡ 0 = eqb-true b 0 two.1 in
    rw zero (ends_false (x == 0) (a == 0))
none_across x (y ∷ []) [] e = refl
none_across x (y ∷ []) (a ∷ []) e = absurd (cc e)
none_across x (y ∷ []) (a ∷ b ∷ []) e = absurd (cc e)
none_across x (y ∷ []) (a ∷ b ∷ c ∷ ys) e =
    let two = and_parts _ _ (and_parts _ _ e).0 in
    let zero : a ≡ 0 = eqb-true a 0 two.0 in
    rw zero (ends_false (x == 0) (y == 0))

before_at : (ys : List ℕ) → begins_with_start_code ys ≡ true → before_start_code ys ≡ []
before_at [] e = refl
before_at (y ∷ ys) e = rw e refl

-- bytes end before a start code that is after them, as at their end
before_same : (xs ys : List ℕ) → begins_with_start_code ys ≡ true → before_start_code (xs ++ ys) ≡ before_start_code xs
before_same [] ys e = before_at ys e
before_same (x ∷ xs) ys e =
    rw (none_across x xs ys e)
    (ap (λ (bytes : List ℕ). if begins_with_start_code (x ∷ xs) then [] else x ∷ bytes) (before_same xs ys e))

-- ---- units

-- the unit after a start code lies before the next one
unit_same : (x : ℕ) (xs ys : List ℕ) → begins_with_start_code ys ≡ true
    → begins_with_start_code (x ∷ xs) ≡ true → before_start_code (drop 2 (xs ++ ys)) ≡ before_start_code (drop 2 xs)
unit_same x [] ys e f = absurd (cc f)
unit_same x (y ∷ []) ys e f = absurd (cc f)
unit_same x (y ∷ z ∷ xs) ys e f = before_same xs ys e

units_by_test : (place next : ℕ) (x : ℕ) (xs ys : List ℕ) (t : Bool) → begins_with_start_code (x ∷ xs) ≡ t
    → begins_with_start_code ys ≡ true
    → units_at kept_bytes (place + 1) (xs ++ ys) ≡ units_at kept_bytes (place + 1) xs ++ units_at kept_bytes next ys
    → units_at kept_bytes place (x ∷ xs ++ ys) ≡ units_at kept_bytes place (x ∷ xs) ++ units_at kept_bytes next ys
units_by_test place next x xs ys true t e more =
    rw (none_across x xs ys e, t)
    (ap (λ (bytes : List ℕ). record {
      offset = place + 3;
      bytes = kept_bytes (without_trailing_zeros bytes);
    } ∷ units_at kept_bytes (place + 1) (xs ++ ys)) (unit_same x xs ys e t)
    ∙ ap (λ (us : List NalUnit). record {
      offset = place + 3;
      bytes = kept_bytes (without_trailing_zeros (before_start_code (drop 2 xs)));
    } ∷ us) more)
units_by_test place next x xs ys false t e more = rw (none_across x xs ys e, t) more

-- the units of two parts, the second of which begins with a start code
pub units_joined : (place : ℕ) (xs ys : List ℕ) → begins_with_start_code ys ≡ true
    → units_at kept_bytes place (xs ++ ys) ≡ units_at kept_bytes place xs ++ units_at kept_bytes (place + length xs) ys
units_joined place [] ys e = ap (λ (n : ℕ). units_at kept_bytes n ys) (omega arith)
units_joined place (x ∷ xs) ys e =
    units_by_test place (place + length (x ∷ xs)) x xs ys (begins_with_start_code (x ∷ xs)) refl e
    (units_joined (place + 1) xs ys e
    ∙ ap (λ (n : ℕ). units_at kept_bytes (place + 1) xs ++ units_at kept_bytes n ys) (omega arith))

pub parts_joined : (xs ys : List ℕ) → begins_with_start_code ys ≡ true
    → units (xs ++ ys) ≡ units xs ++ units_at kept_bytes (length xs) ys
unfolding units_from
parts_joined xs ys e =
    units_joined 0 xs ys e ∙ ap (λ (n : ℕ). units_at kept_bytes 0 xs ++ units_at kept_bytes n ys) (zero-add (length xs))
