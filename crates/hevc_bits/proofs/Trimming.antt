-- Taking zeros off the end of bytes.
use Rattle.std.proofs.Common.{◌≡◌, ◌≢◌, ℕ, zero, suc, ◌-◌, ◌<◌, ◌≤◌, List, [], ◌∷◌, length, take}
use Rattle.std.proofs.Common.{get_or, cond, Bool, true, false, eqb, refl, arith}
use Rattle.std.specs.Prelude.{◌&&◌}
use Rattle.std.proofs.Math.ListN.{length-take}
use Rattle.hevc_spec.specs.Units.{without_trailing_zeros}

zero_off : (n : ℕ) (bytes : List ℕ) → n < length bytes → get_or bytes n 0 ≡ 0
    → without_trailing_zeros (take n bytes) ≡ without_trailing_zeros (take (suc n) bytes)
zero_off n [] lt e = absurd (omega arith)
zero_off zero (byte ∷ bytes) lt e = let z : byte ≡ 0 = e in rw z refl
zero_off (suc n) (byte ∷ bytes) lt e = rw (zero_off n bytes (omega arith) e) refl

no_zero : (byte : ℕ) → byte ≢ 0 → eqb byte 0 ≡ false
no_zero byte h = grind arith

nonzero_stays : (n : ℕ) (bytes : List ℕ) → n < length bytes → get_or bytes n 0 ≢ 0
    → without_trailing_zeros (take (suc n) bytes) ≡ take (suc n) bytes
nonzero_stays zero [] lt h = absurd (omega arith)
nonzero_stays zero (byte ∷ bytes) lt h = rw (no_zero byte h) refl
nonzero_stays (suc n) [] lt h = absurd (omega arith)
nonzero_stays (suc n) (byte ∷ []) lt h = absurd (omega arith)
nonzero_stays (suc n) (byte ∷ next ∷ bytes) lt h =
    rw (nonzero_stays n (next ∷ bytes) (omega arith) h) (by_first (eqb byte 0))
  where
    by_first : (t : Bool) → cond (t && false) [] (byte ∷ next ∷ take n bytes) ≡ byte ∷ next ∷ take n bytes
    by_first true = refl
    by_first false = refl

pub trims : (n : ℕ) (bytes : List ℕ) → 0 < n → n ≤ length bytes → get_or bytes (n - 1) 0 ≡ 0
    → without_trailing_zeros (take (n - 1) bytes) ≡ without_trailing_zeros (take n bytes)
trims zero bytes some le e = absurd (omega arith)
trims (suc n) bytes some le e = let k : suc n - 1 ≡ n = omega arith in rw k (zero_off n bytes (omega arith) (rw k at e))

pub trimmed : (n : ℕ) (bytes : List ℕ) → 0 < n → n ≤ length bytes → get_or bytes (n - 1) 0 ≢ 0
    → without_trailing_zeros (take n bytes) ≡ take n bytes
trimmed zero bytes some le h = absurd (omega arith)
trimmed (suc n) bytes some le h = let k : suc n - 1 ≡ n = omega arith in nonzero_stays n bytes (omega arith) (rw k at h)

pub trimmed_all : (n : ℕ) (bytes : List ℕ) → n ≡ 0 → without_trailing_zeros (take n bytes) ≡ take n bytes
trimmed_all n bytes e = rw e refl

pub take-length : (n : ℕ) (bytes : List ℕ) → n ≤ length bytes → take n bytes ≡ take (length (take n bytes)) bytes
take-length n bytes le = let e : length (take n bytes) ≡ n = grind (arith, length-take) in rw e refl

-- ---- a part of a part

pub take-fewer : (n m : ℕ) (bytes : List ℕ) → n ≤ m → take n (take m bytes) ≡ take n bytes
take-fewer zero m bytes le = refl
take-fewer (suc n) zero bytes le = absurd (omega arith)
take-fewer (suc n) (suc m) [] le = refl
take-fewer (suc n) (suc m) (byte ∷ bytes) le = rw (take-fewer n m bytes (omega arith)) refl
