use Rattle.std.proofs.Common.{◌≡◌, ℕ, zero, suc, ◌+◌, ◌-◌, ◌*◌, ◌%◌, ◌^◌, ◌<◌, ◌≤◌, ◌⊎◌, inl, inr, arith, pow_pos}
use Rattle.std.specs.Int.Count.{count_leading_zeros, leading_of_zero}
use Rattle.std.proofs.Math.Pow.{pow_mono}
use Rattle.std.proofs.lemmas.Bool.{cases_lt}
use Rattle.std.proofs.lemmas.Nat.{one_shl, mod_below, leading_top}
use Rattle.hevc_bits.proofs.word.Word.zeros.Goals as goal

-- the zeros of a number's low bits
record IsCount (n left count : ℕ) : Type 0 where
  pub all : 64 ≤ left + count
  pub most : count ≤ 64
  pub least_one : left + count - 64 < left → 2 ^ (left - 1 - (left + count - 64)) ≤ n
  pub below : left + count - 64 < left → n < 2 ^ (left - (left + count - 64))

counts : (n left : ℕ) → n < 2 ^ left → left ≤ 63 → IsCount n left (count_leading_zeros 64 n)
counts zero left small fits =
    let none : count_leading_zeros 64 0 ≡ 64 = leading_of_zero 64 in
    rw none (record {
      all = omega arith;
      most = omega arith;
      least_one = λ lt. absurd (omega arith);
      below = λ lt. absurd (omega arith);
    })
counts (suc n) left small fits =
    let whole : 2 ^ left ≤ 2 ^ 64 = pow_mono {i = left} {j = 64} (omega arith) in
    let top = leading_top 64 (suc n) (omega arith) (omega arith) in
    let j = top.0 in
    let sum : count_leading_zeros 64 (suc n) + suc j ≡ 64 = top.1 in
    let least : 2 ^ j ≤ suc n = top.2 in
    let most : suc n < 2 ^ suc j = top.3 in
    let inside : suc j ≤ left = by_order (suc n) j (cases_lt j left) small least in
    let a : left - 1 - (left + count_leading_zeros 64 (suc n) - 64) ≡ j = omega arith in
    let b : left - (left + count_leading_zeros 64 (suc n) - 64) ≡ suc j = omega arith in
    record { all = omega arith; most = omega arith; least_one = λ _. rw a least; below = λ _. rw b most }
  where
    by_order : (n j : ℕ) → (j < left) ⊎ (left ≤ j) → n < 2 ^ left → 2 ^ j ≤ n → suc j ≤ left
    by_order n j (inl lt) low big = lt
    by_order n j (inr le) low big = let more : 2 ^ left ≤ 2 ^ j = pow_mono {i = left} {j = j} le in absurd (omega arith)

one : (n : ℕ) → n < 64 → 1 * 2 ^ n % 18446744073709551616 ≡ 2 ^ n
one n lt = one_shl n 64 lt

unread_count : (cache left : ℕ) → left ≤ 63
    → IsCount (cache % 2 ^ left) left (count_leading_zeros 64 (cache % (1 * 2 ^ left % 18446744073709551616)))
unread_count cache left fits =
    rw (one left (omega arith)) (counts (cache % 2 ^ left) left (mod_below cache (2 ^ left) (pow_pos left)) fits)

pub overflow_sub-result : goal.overflow_sub-result
overflow_sub-result c = (unread_count c.args.self.now.cache c.args.self.now.left c.requires.fits).all

pub returns-clause-within : goal.returns-clause-within
returns-clause-within c = let k = unread_count c.args.self.now.cache c.args.self.now.left c.requires.fits in
    omega (arith, k.most)

pub returns-clause-least : goal.returns-clause-least
returns-clause-least c = (unread_count c.args.self.now.cache c.args.self.now.left c.requires.fits).least_one

pub returns-clause-most : goal.returns-clause-most
returns-clause-most c = (unread_count c.args.self.now.cache c.args.self.now.left c.requires.fits).below
