-- How many cycles a picture can tell.
use Rattle.std.proofs.Common.{ℕ, ◌+◌, ◌-◌, ◌^◌, ◌≤◌, slice_index_or, arith}
use Rattle.std.proofs.lemmas.Grind.{common_steps}
use Rattle.std.proofs.Math.Pow.{pow_mono}
use Rattle.hevc_records.specs.SliceHeader.{PlainSliceSegmentHeader}
use Rattle.hevc_tables.specs.SliceHeaderTable.{cycles_before}

pub few_cycles : (n : ℕ) → 4 ≤ n → 2 ^ (32 - n) ≤ 2 ^ 28
few_cycles n le = let small : 32 - n ≤ 28 = grind (arith, le) in pow_mono small

-- what the next picture adds its own to are those of this one, or none
pub cycles_fit : (i : ℕ) (h : PlainSliceSegmentHeader) (most : ℕ)
    → slice_index_or h.delta_poc_msb_cycle_lt i 0 ≤ most → cycles_before (i + 1) h ≤ most
cycles_fit i h most le = grind (arith, common_steps, le)
