-- Numbers in decimal digits.
use Rattle.std.proofs.Common.{◌≡◌, ◌≢◌, ℕ, ◌+◌, ◌-◌, ◌*◌, ◌<◌, ◌≤◌, Bool, true, false, cond, eqb}
use Rattle.std.proofs.Common.{List, [], ◌∷◌, length, get_or, codes, Option, Some, None, refl, sym}
use Rattle.std.proofs.Common.{arith}
use Rattle.std.specs.Prelude.{IfSome, nat_le, ◌&&◌}
use Rattle.std.specs.Str.{bytes_eq}
use Rattle.std.proofs.lemmas.Bool.{and_parts}
use Rattle.std.proofs.lemmas.Slice.Eq.{bytes_eq-Decides}
use Rattle.hevc_report.specs.Command.{digits_behind, number_of_pictures, command}

-- the first digit isn't 0
pub not_zero_first : (digits : List ℕ) → 0 < length digits → 49 ≤ get_or digits 0 0
    → digits_behind 0 digits ≡ number_of_pictures digits
not_zero_first [] some high = absurd (omega arith)
not_zero_first (first ∷ codes) some high = let other : eqb first 48 ≡ false = grind (arith, high) in rw other refl

pub record IsWithin (n : ℕ) : Type 0 where
  pub some : 1 ≤ n
  pub few : n ≤ 100000

-- digits after a number make it no smaller, and up to 100000
within : (n : ℕ) (digits : List ℕ) (m : ℕ) → IsWithin n → digits_behind n digits ≡ Some m → IsWithin m
within n [] m is e =
    let same : n ≡ m = cc in
    record { some = omega (arith, is.some); few = omega (arith, is.few) }
within n (code ∷ codes) m is e =
    by_test (λ few. within (10 * n + (code - 48)) codes m few)
    (nat_le 48 code && nat_le code 57 && nat_le (10 * n + (code - 48)) 100000) refl e
  where
    by_test : (IsWithin (10 * n + (code - 48)) → digits_behind (10 * n + (code - 48)) codes ≡ Some m → IsWithin m)
        → (t : Bool)
        → (nat_le 48 code && nat_le code 57 && nat_le (10 * n + (code - 48)) 100000) ≡ t
        → cond t (digits_behind (10 * n + (code - 48)) codes) None ≡ Some m → IsWithin m
    by_test again true f g =
        let most : nat_le (10 * n + (code - 48)) 100000 ≡ true = (and_parts _ _ f).1 in
        again (record { some = omega (arith, is.some); few = grind (arith, most) }) g
    by_test again false f g = absurd cc

pub pictures_within : (word : List ℕ) (n : ℕ) → number_of_pictures word ≡ Some n → IsWithin n
pictures_within [] n e = absurd cc
pictures_within (first ∷ codes) n e = by_first (eqb first 48) refl e
  where
    by_digit : first ≢ 48 → (t : Bool)
        → (nat_le 48 first && nat_le first 57 && nat_le (10 * 0 + (first - 48)) 100000) ≡ t
        → cond t (digits_behind (10 * 0 + (first - 48)) codes) None ≡ Some n → IsWithin n
    by_digit other true f g =
        let parts = and_parts _ _ f in
        let low : nat_le 48 first ≡ true = (and_parts _ _ parts.0).0 in
        let above : 48 ≤ first = grind (arith, low) in
        let most : nat_le (10 * 0 + (first - 48)) 100000 ≡ true = parts.1 in
        within (10 * 0 + (first - 48)) codes n
        (record { some = omega (arith, above, other); few = grind (arith, most) }) g
    by_digit other false f g = absurd cc

    by_first : (t : Bool) → eqb first 48 ≡ t → cond t None (digits_behind 0 (first ∷ codes)) ≡ Some n → IsWithin n
    by_first true f g = absurd cc
    by_first false f g = let other : first ≢ 48 = grind (arith, f) in by_digit other _ refl g

pub number_within : (word : List ℕ) (number : Option ℕ) → number ≡ number_of_pictures word
    → IfSome number (λ n. (1 ≤ n) × (n ≤ 100000))
number_within word None e = tt
number_within word (Some n) e = let is = pictures_within word n (sym e) in (is.some, is.few)

-- `make N` isn't one of the other commands
pub make_is_apart : (make number : List ℕ) → bytes_eq make (codes "make") ≡ true → command (make ∷ number ∷ []) ≡ None
make_is_apart make number e =
    let same : make ≡ codes "make" = (bytes_eq-Decides make (codes "make")).0 e in
    rw same refl
