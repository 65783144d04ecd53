-- The ranges of weights and offsets.
use Rattle.std.proofs.Common.{ℕ, ◌+◌, ◌^◌, ◌≤◌, Bool, true, false, List, [], ◌∷◌, ◌++◌, arith}
use Rattle.std.specs.Prelude.{nat_le}
use Rattle.std.proofs.lemmas.Grind.{common_steps}
use Rattle.std.proofs.lemmas.List.Folds.{list_all-append}
use Rattle.std.proofs.lemmas.List.{map-set}
use Rattle.std.proofs.lemmas.Nat.{pow_pos}
use Rattle.std.proofs.Math.Pow.{pow_mono}
use Rattle.hevc_records.proofs.BoundLemmas.{Within-set}
use Rattle.hevc_records.specs.Bounds.{AtMost}
use Rattle.hevc_records.specs.SpsSizes.{wp_offset_half_range}

-- half ranges are from 1 to 8192
pub some_half_range : (high_precision : Bool) (bit_depth_minus8 : ℕ)
    → 1 ≤ wp_offset_half_range high_precision bit_depth_minus8
some_half_range true n = pow_pos (n + 7)
some_half_range false n = grind arith

pub small_half_range : (high_precision : Bool) (bit_depth_minus8 : ℕ) → bit_depth_minus8 ≤ 6
    → wp_offset_half_range high_precision bit_depth_minus8 ≤ 8192
small_half_range true n le = let small : n + 7 ≤ 13 = grind (arith, le) in let up : 2 ^ (n + 7) ≤ 2 ^ 13 =
    pow_mono small in grind (arith, up)
small_half_range false n le = grind arith

-- numbers up to a bound, and one more
pub AtMost-more : (bound : ℕ) (xs : List ℕ) (x : ℕ) → AtMost bound xs → x ≤ bound → AtMost bound (xs ++ x ∷ [])
AtMost-more bound xs x h le =
    grind (arith, common_steps, h, le, list_all-append (λ (n : ℕ). nat_le n bound) xs (x ∷ []))

pub ruleset half_ranges = (some_half_range, small_half_range)

pub ruleset ranges = (Within-set, map-set)
