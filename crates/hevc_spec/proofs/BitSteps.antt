-- What is at the front of bits, bit by bit.
use Rattle.std.proofs.Common.{◌≡◌, ℕ, suc, ◌+◌, ◌*◌, ◌^◌, ◌<◌, ◌≤◌, Bool, true, false, cond, List}
use Rattle.std.proofs.Common.{[], ◌∷◌, ◌++◌, length, take, drop, refl, sym, ap, subst, ◌∙◌, arith}
use Rattle.std.proofs.Math.ListN.{length-take}
use Rattle.std.proofs.lemmas.List.{take-append-drop}
use Rattle.std.proofs.Math.Nat.{mul_assoc, mul_comm, mul-le-mul_right}
use Rattle.std.proofs.lemmas.Grind.{pow_more}
use Rattle.std.specs.Prelude.{if◌then◌else◌, nat_le}
use Rattle.std.proofs.lemmas.Bool.{and_parts}
use Rattle.hevc_spec.specs.Bits.{u, IsAtFront, Found, found, out_of_bounds, ended, number}
use Rattle.hevc_spec.specs.Bits.{number_after, bits_after, bits_at, leading_zeros, golomb_at}
use Rattle.hevc_spec.specs.Bits.{less_one, within, in_range, ue_at}

nat_le-true : (m n : ℕ) → m ≤ n → nat_le m n ≡ true
nat_le-true m n h = grind arith

nat_le-false : (m n : ℕ) → n < m → nat_le m n ≡ false
nat_le-false m n h = grind arith

nat_le-below : (m n : ℕ) → nat_le m n ≡ true → m ≤ n
nat_le-below m n e = grind arith

nat_le-suc : (m n : ℕ) → nat_le (suc m) (suc n) ≡ nat_le m n
nat_le-suc m n = grind arith

-- ---- so many bits

pub bits_after-zero : (front : ℕ) (bits : List Bool) → bits_after front 0 bits ≡ found front bits
unfolding bits_after
bits_after-zero front bits = rw (nat_le-true 0 (length bits) (omega arith)) refl

pub bits_after-nil : (front n : ℕ) → bits_after front (suc n) [] ≡ ended
unfolding bits_after
bits_after-nil front n = rw (nat_le-false (suc n) 0 (omega arith)) refl

pub bits_after-cons : (front n : ℕ) (b : Bool) (bits : List Bool)
    → bits_after front (suc n) (b ∷ bits) ≡ bits_after (2 * front + (if b then 1 else 0)) n bits
unfolding bits_after
bits_after-cons front n b bits = rw (nat_le-suc n (length bits)) refl

-- ---- Exp-Golomb numbers

-- an Exp-Golomb number after some of its zeros
unfoldable pub golomb_after : ℕ → List Bool → Found
golomb_after count bits = let zeros =
    leading_zeros bits in if nat_le 32 (count + zeros) then out_of_bounds else less_one
    (bits_at (count + zeros + 1) (drop zeros bits))

pub golomb_after-zero : (bits : List Bool) → golomb_after 0 bits ≡ golomb_at bits
unfolding golomb_after golomb_at
golomb_after-zero bits = let e : 0 + leading_zeros bits ≡ leading_zeros bits = omega arith in rw e refl

pub golomb_after-nil : (count : ℕ) → count ≤ 31 → golomb_after count [] ≡ ended
unfolding golomb_after bits_at
golomb_after-nil count few =
    let k : count + 0 + 1 ≡ suc count = omega arith in
    rw (nat_le-false 32 (count + 0) (omega arith), k, bits_after-nil 0 count) refl

pub golomb_after-one : (count : ℕ) (bits : List Bool) → count ≤ 31
    → golomb_after count (true ∷ bits) ≡ less_one (bits_after 1 count bits)
unfolding golomb_after bits_at
golomb_after-one count bits few =
    let k : count + 0 + 1 ≡ suc count = omega arith in
    rw (nat_le-false 32 (count + 0) (omega arith), k, bits_after-cons 0 count true bits) refl

pub golomb_after-more : (count : ℕ) (bits : List Bool)
    → golomb_after count (false ∷ bits) ≡ golomb_after (suc count) bits
unfolding golomb_after
golomb_after-more count bits =
    let k : count + suc (leading_zeros bits) ≡ suc count + leading_zeros bits = omega arith in
    rw k refl

pub golomb_after-many : (bits : List Bool) → golomb_after 32 bits ≡ out_of_bounds
unfolding golomb_after
golomb_after-many bits = rw (nat_le-true 32 (32 + leading_zeros bits) (omega arith)) refl

-- ---- what is found

number_after-bound : (front : ℕ) (bits : List Bool) → number_after front bits < (front + 1) * 2 ^ length bits
number_after-bound front [] = omega arith
number_after-bound front (b ∷ bits) =
    let h = number_after-bound (2 * front + (if b then 1 else 0)) bits in
    let k : suc (length bits) ≡ length bits + 1 = omega arith in
    let e : 2 ^ suc (length bits) ≡ 2 ^ length bits * 2 = rw k (pow_more 2 (length bits)) in
    let most : 2 * front + (if b then 1 else 0) + 1 ≤ (front + 1) * 2 = at_most b in
    let step = mul-le-mul_right (2 ^ length bits) most in
    let regrouped : (front + 1) * 2 * 2 ^ length bits ≡ (front + 1) * (2 ^ length bits * 2) =
    mul_assoc (front + 1) 2 (2 ^ length bits) ∙ ap (λ (x : ℕ). (front + 1) * x) (mul_comm 2 (2 ^ length bits)) in
    rw e (omega (arith, h, step, regrouped))
  where
    at_most : (b : Bool) → 2 * front + (if b then 1 else 0) + 1 ≤ (front + 1) * 2
    at_most true = omega arith
    at_most false = omega arith

pub bits_at-found : (n : ℕ) (bits : List Bool) → n ≤ length bits
    → bits_at n bits ≡ found (number (take n bits)) (drop n bits)
unfolding bits_at bits_after
bits_at-found n bits enough = rw (nat_le-true n (length bits) enough) refl

pub bits_at-ended : (n : ℕ) (bits : List Bool) → length bits < n → bits_at n bits ≡ ended
unfolding bits_at bits_after
bits_at-ended n bits few = rw (nat_le-false n (length bits) few) refl

-- the bits that were found spell the number
pub bits_at-front : (n : ℕ) (bits : List Bool) (v : ℕ) (rest : List Bool) → bits_at n bits ≡ found v rest
    → IsAtFront (u n) v bits rest
bits_at-front n bits v rest e = by_length (nat_le n (length bits)) refl
  where
    by_length : (t : Bool) → nat_le n (length bits) ≡ t → IsAtFront (u n) v bits rest
    by_length true enough =
        let le : n ≤ length bits = grind arith in
        let f = sym (bits_at-found n bits le) ∙ e in
        let same : number (take n bits) ≡ v = cc in
        let behind : drop n bits ≡ rest = cc in
        record {
          front = take n bits;
          spelled = (grind (arith, length-take), same);
          parts = sym (take-append-drop n bits) ∙ ap (λ (x : List Bool). take n bits ++ x) behind;
        }
    by_length false few =
        let lt : length bits < n = grind arith in
        absurd (cc (e, bits_at-ended n bits lt))

pub spelled-bound : (n v : ℕ) (bits rest : List Bool) → IsAtFront (u n) v bits rest → v < 2 ^ n
spelled-bound n v bits rest s =
    let h = number_after-bound 0 s.front in
    let long : length s.front ≡ n = s.spelled.0 in
    let is : number s.front ≡ v = s.spelled.1 in
    let below : number s.front < 2 ^ length s.front = omega (arith, h) in
    subst (λ (x : ℕ). x < 2 ^ n) is (subst (λ (x : ℕ). number s.front < 2 ^ x) long below)

pub ue_at-bound : (bits : List Bool) (v : ℕ) (rest : List Bool) → ue_at bits ≡ found v rest → v ≤ 2147483647
unfolding ue_at
ue_at-bound bits v rest e = by_found (golomb_at bits) e
  where
    by_value : (w : ℕ) (behind : List Bool) (t : Bool) → in_range 0 2147483647 w ≡ t
        → cond t (found w behind) out_of_bounds ≡ found v rest → v ≤ 2147483647
    by_value w behind true is h =
        let same : w ≡ v = cc in
        let small : w ≤ 2147483647 = nat_le-below w 2147483647 (and_parts (nat_le 0 w) (nat_le w 2147483647) is).1 in
        omega arith
    by_value w behind false is h = absurd cc

    by_found : (f : Found) → within (in_range 0 2147483647) f ≡ found v rest → v ≤ 2147483647
    by_found (found w behind) h = by_value w behind (in_range 0 2147483647 w) refl h
    by_found out_of_bounds h = absurd cc
    by_found ended h = absurd cc
