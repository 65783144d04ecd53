-- Bytes without a start code.
use Rattle.std.proofs.Common.{◌≡◌, ℕ, zero, suc, Bool, true, false, cond, List, [], ◌∷◌, take, refl, ap}
use Rattle.hevc_spec.specs.Units.{begins_with_start_code, before_start_code}

-- none begins at the first byte, and none is after it
pub record Whole (byte : ℕ) (bytes : List ℕ) : Type 0 where
  pub here : begins_with_start_code (byte ∷ bytes) ≡ false
  pub after : before_start_code bytes ≡ bytes

-- bytes without a start code are whole
pub whole : (byte : ℕ) (bytes : List ℕ) → before_start_code (byte ∷ bytes) ≡ byte ∷ bytes → Whole byte bytes
whole byte bytes e = by_test (begins_with_start_code (byte ∷ bytes)) refl e
  where
    by_test : (t : Bool) → begins_with_start_code (byte ∷ bytes) ≡ t
        → cond t [] (byte ∷ before_start_code bytes) ≡ byte ∷ bytes → Whole byte bytes
    by_test true f g = absurd cc
    by_test false f g = record { here = f; after = cc }

-- none is in what is before the first one
none_before : (x : ℕ) (xs : List ℕ) → begins_with_start_code (x ∷ xs) ≡ false
    → begins_with_start_code (x ∷ before_start_code xs) ≡ false
none_before x [] h = refl
none_before x (y ∷ []) h = refl
none_before x (y ∷ z ∷ xs) h = by_test (begins_with_start_code (y ∷ z ∷ xs)) (begins_with_start_code (z ∷ xs))
  where
    by_test : (s t : Bool) → begins_with_start_code (x ∷ cond s [] (y ∷ cond t [] (z ∷ before_start_code xs))) ≡ false
    by_test true t = refl
    by_test false true = refl
    by_test false false = h

-- what is before a start code has none
pub before_whole : (xs : List ℕ) → before_start_code (before_start_code xs) ≡ before_start_code xs
before_whole [] = refl
before_whole (x ∷ xs) = by_test (begins_with_start_code (x ∷ xs)) refl (before_whole xs)
  where
    by_test : (t : Bool) → begins_with_start_code (x ∷ xs) ≡ t
        → before_start_code (before_start_code xs) ≡ before_start_code xs
        → before_start_code (cond t [] (x ∷ before_start_code xs)) ≡ cond t [] (x ∷ before_start_code xs)
    by_test true e more = refl
    by_test false e more = rw (none_before x xs e) (ap (λ (bytes : List ℕ). x ∷ bytes) more)

-- nor in first bytes of such bytes
none_in_front : (n : ℕ) (x : ℕ) (xs : List ℕ) → begins_with_start_code (x ∷ xs) ≡ false
    → begins_with_start_code (x ∷ take n xs) ≡ false
none_in_front zero x xs h = refl
none_in_front (suc n) x [] h = refl
none_in_front (suc zero) x (y ∷ xs) h = refl
none_in_front (suc (suc n)) x (y ∷ []) h = refl
none_in_front (suc (suc n)) x (y ∷ z ∷ xs) h = h

-- nor has its beginning
pub front_whole : (n : ℕ) (xs : List ℕ) → before_start_code xs ≡ xs → before_start_code (take n xs) ≡ take n xs
front_whole zero xs h = refl
front_whole (suc n) [] h = refl
front_whole (suc n) (x ∷ xs) h =
    let w = whole x xs h in
    rw (none_in_front n x xs w.here) (ap (λ (bytes : List ℕ). x ∷ bytes) (front_whole n xs w.after))
