-- Sums modulo 256, as sums that wrap in a byte.
use Rattle.std.proofs.Common.{◌≡◌, ℕ, ◌+◌, ◌%◌, ◌^◌, ℤ, pos, negsuc, arith}
use Rattle.std.specs.Prelude.{FitsSigned}
use Rattle.std.specs.Int.{w8, cast_unsigned}
use Rattle.std.proofs.lemmas.Int.{ints}
use Rattle.hevc_tables.specs.ScalingListTable.{sum_modulo_256}

pub wrapped : (v : ℕ) (delta : ℤ) → FitsSigned w8 delta → (v + cast_unsigned w8 delta) % 2 ^ 8 ≡ sum_modulo_256 v delta
wrapped v (pos d) fits = omega (arith, ints, fits)
wrapped v (negsuc d) fits = omega (arith, ints, fits)
