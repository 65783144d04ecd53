-- How many powers of two lie below a number.
use Rattle.std.proofs.Common.{◌≡◌, ℕ, zero, suc, ◌+◌, ◌-◌, ◌*◌, ◌^◌, ◌≤◌, ◌<◌, min, Bool, true}
use Rattle.std.proofs.Common.{false, take, get_or, refl, arith}
use Rattle.std.specs.Prelude.{nat_lt}
use Rattle.std.specs.List.{count_by, range_with_len}
use Rattle.std.proofs.lemmas.List.{take_all}
use Rattle.std.proofs.lemmas.List.FromFn.{length-range_with_len, get_or-range_with_len}
use Rattle.std.proofs.lemmas.List.Sums.{count_by_more_no, count_by_more_yes}
use Rattle.std.proofs.Math.Nat.{pow-suc}
use Rattle.std.proofs.Math.Pow.{pow_mono}
use Rattle.hevc_tables.specs.MathFunctions.{ceil_log2}

there : (i : ℕ) → i < 32 → get_or (range_with_len 0 32) i 0 ≡ i
there i lt = grind (arith, get_or-range_with_len 0 32 i 0 lt)

module _ (n r : ℕ) (below : (k : ℕ) → k < r → 2 ^ k < n) (above : (k : ℕ) → r ≤ k → n ≤ 2 ^ k) where
  next_power : (i : ℕ) (b : Bool) → nat_lt i r ≡ b → i < 32
      → count_by (λ (k : ℕ). nat_lt (2 ^ k) n) (take i (range_with_len 0 32)) ≡ min i r
      → count_by (λ (k : ℕ). nat_lt (2 ^ k) n) (take (i + 1) (range_with_len 0 32)) ≡ min (i + 1) r
  next_power i true in_r lt so_far =
      let small : i < r = grind (arith, in_r) in
      let yes : nat_lt (2 ^ i) n ≡ true = grind (arith, below i small) in
      grind (
        arith,
        small,
        so_far,
        count_by_more_yes (λ (k : ℕ). nat_lt (2 ^ k) n) (range_with_len 0 32) i 0
            (grind (arith, lt, length-range_with_len 0 32)) (rw (there i lt) yes),
      )
  next_power i false not_in_r lt so_far =
      let large : r ≤ i = grind (arith, not_in_r) in
      let no : nat_lt (2 ^ i) n ≡ false = grind (arith, above i large) in
      grind (
        arith,
        large,
        so_far,
        count_by_more_no (λ (k : ℕ). nat_lt (2 ^ k) n) (range_with_len 0 32) i 0
            (grind (arith, lt, length-range_with_len 0 32)) (rw (there i lt) no),
      )

  first_powers : (i : ℕ) → i ≤ 32 → count_by (λ (k : ℕ). nat_lt (2 ^ k) n) (take i (range_with_len 0 32)) ≡ min i r
  first_powers zero le = grind arith
  first_powers (suc i) le =
      grind (arith, next_power i (nat_lt i r) refl (grind (arith, le)) (first_powers i (grind (arith, le))))

  pub all_powers : r ≤ 32 → ceil_log2 n ≡ r
  unfolding ceil_log2
  all_powers le =
      grind (
        arith,
        le,
        first_powers 32 (grind arith),
        take_all 32 (range_with_len 0 32) (grind (arith, length-range_with_len 0 32)),
      )

pow_more : (m : ℕ) → 2 ^ (m + 1) ≡ 2 * 2 ^ m
pow_more m = grind (arith, pow-suc 2 m)

-- of numbers up to 1 there is none
pub no_powers : (n : ℕ) → n ≤ 1 → ceil_log2 n ≡ 0
no_powers n le = all_powers n 0 (λ k lt. grind (arith, lt)) (λ k at. grind (arith, le, pow_mono at)) (grind arith)

-- of others, one more than the logarithm of the number less 1, rounded down
pub some_powers : (n m : ℕ) → 2 ^ m ≤ n - 1 → n - 1 < 2 * 2 ^ m → m < 32 → ceil_log2 n ≡ m + 1
some_powers n m least most lt =
    all_powers n (m + 1)
    (λ k in_m. let small : k ≤ m = grind (arith, in_m) in let up : 2 ^ k ≤ 2 ^ m = pow_mono small in
    grind (arith, least, up))
    (λ k at. let up : 2 ^ (m + 1) ≤ 2 ^ k = pow_mono at in grind (arith, most, up, pow_more m))
    (grind (arith, lt))

-- a power below 2 ^ 31 is one of a smaller number
small_power : (m : ℕ) (b : Bool) → nat_lt m 31 ≡ b → 2 ^ m < 2 ^ 31 → m + 1 ≤ 31
small_power m true small lt = grind (arith, small)
small_power m false large lt = let above : 31 ≤ m = grind (arith, large) in let up : 2 ^ 31 ≤ 2 ^ m =
    pow_mono above in absurd (grind (arith, up, lt))

pub few_powers : (n m : ℕ) → 2 ^ m ≤ n - 1 → n ≤ 2 ^ 31 → m + 1 ≤ 31
few_powers n m least most = small_power m (nat_lt m 31) refl (grind (arith, least, most))

pub ruleset logarithms = (no_powers, some_powers, few_powers)
