-- The bits that an element is written in spell its value.
use Rattle.std.proofs.Common.{◌≡◌, ℕ, zero, suc, ◌+◌, ◌-◌, ◌*◌, ◌/◌, ◌%◌, ◌^◌, ◌<◌, ◌≤◌, Bool, true}
use Rattle.std.proofs.Common.{false, cond, eqb, List, ◌∷◌, ◌++◌, length, refl, sym, ap, ◌∙◌, arith}
use Rattle.std.proofs.Common.{pow_pos}
use Rattle.std.specs.Prelude.{nat_le, replicate, ℤ, pos, negsuc}
use Rattle.std.specs.Int.{bit_at}
use Rattle.std.proofs.lemmas.Nat.{mod_low, mod-pow-add, shr_split, le-div, div_below}
use Rattle.std.proofs.Math.Nat.{mul_assoc}
use Rattle.std.proofs.lemmas.Nat.Bits.{bit_at-lt, bit_at_above}
use Rattle.std.proofs.lemmas.Grind.{pow_more}
use Rattle.std.proofs.Math.Pow.{pow_mono}
use Rattle.hevc_spec.specs.Bits.{Form, u, ue, se, skip, check, number, number_after, found, form_at}
use Rattle.hevc_spec.specs.Bits.{signed, IsExpGolomb, IsSpelled}
use Rattle.hevc_spec.specs.Payload.{low_bits}
use Rattle.hevc_spec.proofs.PlaceLaws.{low_bits_length}
use Rattle.hevc_reading_laws.proofs.FormLaws.{form_spelled}
use Rattle.hevc_bit_writer.specs.Writing.{exponent_within, leading_zero_bits, spelled, CanSpell, code_number}

-- ---- so many low bits

digit : (x : ℕ) → x < 2 → cond (eqb x 1) 1 0 ≡ x
digit zero h = refl
digit (suc zero) h = refl
digit (suc (suc x)) h = absurd (omega arith)

pub twice : (v n a r : ℕ) → (2 * v + a) * 2 ^ n + r ≡ v * 2 ^ suc n + (a * 2 ^ n + r)
twice v n a r =
    let k : suc n ≡ n + 1 = omega arith in
    let e : 2 ^ suc n ≡ 2 ^ n * 2 = rw k (pow_more 2 n) in
    let p : v * (2 ^ n * 2) ≡ v * 2 ^ n * 2 = sym (mul_assoc v (2 ^ n) 2) in
    rw e (omega (arith, p))

-- what the low bits of a number spell after another
pub number_after-low_bits : (v n c : ℕ) → number_after v (low_bits n c) ≡ v * 2 ^ n + c % 2 ^ n
number_after-low_bits v zero c = omega arith
number_after-low_bits v (suc n) c =
    let k : suc n ≡ 1 + n = omega arith in
    let split : c % 2 ^ suc n ≡ bit_at c n * 2 ^ n + c % 2 ^ n = rw k (mod-pow-add c 1 n) in
    let same : 2 * v + cond (eqb (bit_at c n) 1) 1 0 ≡ 2 * v + bit_at c n =
    ap (λ (x : ℕ). 2 * v + x) (digit (bit_at c n) (bit_at-lt c n)) in
    ap (λ (x : ℕ). number_after x (low_bits n c)) same ∙ number_after-low_bits (2 * v + bit_at c n) n c
    ∙ twice v n (bit_at c n) (c % 2 ^ n) ∙ ap (λ (x : ℕ). v * 2 ^ suc n + x) (sym split)

-- a number of so many bits
pub number-low_bits : (n c : ℕ) → c < 2 ^ n → number (low_bits n c) ≡ c
number-low_bits n c small =
    let all = number_after-low_bits 0 n c in
    let none : 0 * 2 ^ n + c ≡ c = omega arith in
    let low : c % 2 ^ n ≡ c = ap (λ (x : ℕ). x % 2 ^ n) (sym none) ∙ mod_low 0 n c small in
    all ∙ omega (arith, low)

-- ---- Exp-Golomb numbers

pub record IsExponent (n k : ℕ) : Type 0 where
  pub low : 2 ^ k ≤ n
  pub high : n < 2 ^ suc k

-- an exponent is found
pub exponent : (most n : ℕ) → 0 < n → n < 2 ^ suc most → IsExponent n (exponent_within most n)
exponent zero n some small = record { low = omega arith; high = small }
exponent (suc most) n some small = by_test (λ h. exponent most n some h) (nat_le (2 ^ suc most) n) refl
  where
    by_test : (n < 2 ^ suc most → IsExponent n (exponent_within most n)) → (t : Bool)
        → nat_le (2 ^ suc most) n ≡ t → IsExponent n (cond t (suc most) (exponent_within most n))
    by_test again true e = record { low = grind (arith, e); high = small }
    by_test again false e = again (grind (arith, e))

exponent_most : (most n : ℕ) → exponent_within most n ≤ most
exponent_most zero n = omega arith
exponent_most (suc most) n = by_test (exponent_most most n) (nat_le (2 ^ suc most) n)
  where
    by_test : exponent_within most n ≤ most → (t : Bool) → cond t (suc most) (exponent_within most n) ≤ suc most
    by_test h true = omega arith
    by_test h false = omega arith

pub exponent_below : (j k : ℕ) → 2 ^ j < 2 ^ suc k → j ≤ k
exponent_below j k h = by_test (nat_le j k) refl
  where
    by_test : (t : Bool) → nat_le j k ≡ t → j ≤ k
    by_test true e = grind (arith, e)
    by_test false e =
        let above : suc k ≤ j = grind (arith, e) in
        absurd (omega (arith, h, pow_mono above))

-- and no other
pub one_exponent : (n k j : ℕ) → IsExponent n k → IsExponent n j → k ≡ j
one_exponent n k j p q =
    let a : 2 ^ k < 2 ^ suc j = omega (arith, p.low, q.high) in
    let b : 2 ^ j < 2 ^ suc k = omega (arith, q.low, p.high) in
    omega (arith, exponent_below k j a, exponent_below j k b)

top_one : (m w : ℕ) → IsExponent w m → w / 2 ^ m ≡ 1
top_one m w is =
    let k : suc m ≡ m + 1 = omega arith in
    let e : 2 ^ suc m ≡ 2 ^ m * 2 = rw k (pow_more 2 m) in
    let low = le-div 1 w (2 ^ m) (pow_pos m) (omega (arith, is.low)) in
    let high = div_below w (2 ^ m) 2 (pow_pos m) (omega (arith, is.high, e)) in
    omega (arith, low, high)

zeros_above : (z m w : ℕ) → w < 2 ^ m → low_bits (z + m) w ≡ replicate z false ++ low_bits m w
zeros_above zero m w small = let e : 0 + m ≡ m = omega arith in rw e refl
zeros_above (suc z) m w small =
    let e : suc z + m ≡ suc (z + m) = omega arith in
    let none : bit_at w (z + m) ≡ 0 = bit_at_above w m (z + m) small (omega arith) in
    rw (e, none) (ap (λ (x : List Bool). false ∷ x) (zeros_above z m w small))

exp_golomb : (value z : ℕ) → IsExponent (value + 1) z → z ≤ 31 → IsExpGolomb value (low_bits (2 * z + 1) (value + 1))
exp_golomb value z e few =
    let w = value + 1 in
    let rest = low_bits z w in
    let long : length rest ≡ z = low_bits_length z w in
    let half : w / 2 ^ z ≡ 1 = top_one z w e in
    let whole = shr_split w z in
    let top : low_bits (suc z) w ≡ true ∷ rest = ap (λ (x : ℕ). eqb (x % 2) 1 ∷ rest) half in
    let k : 2 * z + 1 ≡ z + suc z = omega arith in
    record {
      rest = rest;
      short = omega arith;
      parts = rw (k, long) (zeros_above z (suc z) w e.high ∙ ap (λ (x : List Bool). replicate z false ++ x) top);
      value_is = sym whole ∙ ap (λ (x : ℕ). x * 2 ^ z + w % 2 ^ z) half ∙ sym (number_after-low_bits 1 z w);
    }

is_exp_golomb : (value : ℕ) → value + 1 < 2 ^ 32
    → IsExpGolomb value (low_bits (2 * leading_zero_bits value + 1) (value + 1))
unfolding leading_zero_bits
is_exp_golomb value small =
    exp_golomb value (leading_zero_bits value) (exponent 31 (value + 1) (omega arith) small)
    (exponent_most 31 (value + 1))

-- the zeros of a value whose shifted number has this exponent
pub leading_zero_bits-is : (value z : ℕ) → value + 1 < 2 ^ 32 → 2 ^ z ≤ value + 1 → value + 1 < 2 * 2 ^ z
    → leading_zero_bits value ≡ z
unfolding leading_zero_bits
leading_zero_bits-is value z small low high =
    let k : suc z ≡ z + 1 = omega arith in
    let e : 2 ^ suc z ≡ 2 ^ z * 2 = rw k (pow_more 2 z) in
    let here : IsExponent (value + 1) z = record { low = low; high = omega (arith, e, high) } in
    one_exponent (value + 1) (exponent_within 31 (value + 1)) z (exponent 31 (value + 1) (omega arith) small) here

-- ---- each form

pub is_spelled : (form : Form) (value : ℕ) → CanSpell form value → IsSpelled form value (spelled form value)
is_spelled (u n) value h = (low_bits_length n value, number-low_bits n value h)
is_spelled ue value h = is_exp_golomb value h
is_spelled se value h = is_exp_golomb value h
is_spelled (skip n) value h = (low_bits_length n value, number-low_bits n value h)
is_spelled check value h = (refl, h)

pub is_read : (form : Form) (value : ℕ) (rest : List Bool) → CanSpell form value
    → form_at form (spelled form value ++ rest) ≡ found value rest
is_read form value rest h = form_spelled form value (spelled form value) rest (is_spelled form value h)

-- ---- signed numbers

pub signed_back : (value : ℤ) → signed (code_number value) ≡ value
signed_back (pos zero) = refl
signed_back (pos (suc n)) =
    let odd : (2 * suc n - 1) % 2 ≡ 1 = omega arith in
    let half : (2 * suc n - 1) / 2 + 1 ≡ suc n = omega arith in
    rw (odd, half) refl
signed_back (negsuc n) =
    let even : (2 * (n + 1)) % 2 ≡ 0 = omega arith in
    let half : (2 * (n + 1)) / 2 ≡ suc n = omega arith in
    rw (even, half) refl
