-- The range of offsets of chroma.
use Rattle.std.proofs.Common.{ℕ, ◌+◌, ◌^◌, ◌≤◌, Bool, true, false, arith}
use Rattle.std.proofs.Math.Nat.{pow-le-pow_right}
use Rattle.std.proofs.lemmas.Nat.{pow_pos}
use Rattle.hevc_records.specs.SpsSizes.{wp_offset_half_range}

-- half of it is 1 to 8192
pub half_range_within : (high_precision : Bool) (depth : ℕ) → depth ≤ 6
    → (1 ≤ wp_offset_half_range high_precision depth)
    × (wp_offset_half_range high_precision depth ≤ 8192)
half_range_within false depth few = (omega arith, omega arith)
half_range_within true depth few =
    let most : 2 ^ (depth + 7) ≤ 2 ^ 13 =
    pow-le-pow_right {n = 2} (omega arith) {i = depth + 7} {j = 13} (omega arith) in
    (omega (arith, pow_pos (depth + 7)), omega arith)
