-- Products of signed numbers.
use Rattle.std.proofs.Common.{suc, ℤ, pos, negsuc, ◌*◌, ◌≤◌, ◌≤ℤ◌, ◌*ℤ◌, arith}
use Rattle.std.proofs.lemmas.Nat.{mul-le}
use Rattle.std.proofs.lemmas.Int.{ints}

-- half the range of offsets by a weight
pub weighted_within : (a b : ℤ) → pos 1 ≤ℤ a → a ≤ℤ pos 8192 → negsuc 127 ≤ℤ b → b ≤ℤ pos 255
    → (negsuc 4194303 ≤ℤ (a *ℤ b)) × ((a *ℤ b) ≤ℤ pos 4194303)
weighted_within (pos a) (pos b) least most low high =
    let m : a * b ≤ 8192 * 255 = mul-le a b 8192 255 (omega (arith, ints)) (omega (arith, ints)) in
    (omega (arith, ints), omega (arith, ints))
weighted_within (pos a) (negsuc b) least most low high =
    let m : a * suc b ≤ 8192 * 128 = mul-le a (suc b) 8192 128 (omega (arith, ints)) (omega (arith, ints)) in
    (omega (arith, ints), omega (arith, ints))
weighted_within (negsuc a) b least most low high = absurd (omega (arith, ints))
