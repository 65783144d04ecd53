-- A picture has some blocks each way, and not more than luma samples.
use Rattle.std.proofs.Common.{ℕ, ◌≤◌, ◌<◌, arith}
use Rattle.std.specs.Int.{div_ceil}
use Rattle.std.proofs.lemmas.Grind.{div_ceil_times}
use Rattle.std.proofs.Math.Nat.{div-le_self}

-- where nothing is left over there is a whole block
pub some_block : (n size : ℕ) → 1 ≤ n → 0 < size → 1 ≤ div_ceil n size
some_block n size le lt = grind (arith, le, lt, div_ceil_times n size lt)

pub few_blocks : (n size : ℕ) → 1 ≤ n → 0 < size → div_ceil n size ≤ n
few_blocks n size le lt = grind (arith, le, lt, div_ceil_times n size lt, div-le_self n size)

pub ruleset some_blocks = (some_block, few_blocks)
