-- Shifts of signed numbers.
use Rattle.std.proofs.Common.{ℕ, ℤ, pos, negsuc, ◌≤ℤ◌, arith}
use Rattle.std.specs.Int.{int_shr}
use Rattle.std.proofs.lemmas.Nat.{shr_le}
use Rattle.std.proofs.lemmas.Int.{ints}

-- a number that is shifted to the right is no further from 0, or -1
pub shifted_within : (n : ℤ) (k b : ℕ) → negsuc b ≤ℤ n → n ≤ℤ pos b
    → (negsuc b ≤ℤ int_shr n k) × (int_shr n k ≤ℤ pos b)
shifted_within (pos a) k b low high = (omega (arith, ints, shr_le a k), omega (arith, ints, shr_le a k))
shifted_within (negsuc a) k b low high = (omega (arith, ints, shr_le a k), omega (arith, ints, shr_le a k))
