-- MaxPicOrderCntLsb is from 16 to 65536.
use Rattle.std.proofs.Common.{ℕ, ◌+◌, ◌^◌, ◌≤◌, arith}
use Rattle.std.proofs.Math.Nat.{pow-le-pow_right}

pub power_most : (k : ℕ) → k ≤ 12 → 2 ^ (k + 4) ≤ 65536
power_most k h = pow-le-pow_right {n = 2} (omega arith) {i = k + 4} {j = 16} (omega arith)

pub power_least : (k : ℕ) → 16 ≤ 2 ^ (k + 4)
power_least k = pow-le-pow_right {n = 2} (omega arith) {i = 4} {j = k + 4} (omega arith)
