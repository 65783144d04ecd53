-- The types of this crate as those of the table.
use Rattle.std.specs.Prelude.{ℕ}
use Rattle.hevc_tables.specs.ScalingListTable as table
use Rattle.hevc_scaling.specs.declared.size.Size.{Size}
use Rattle.hevc_scaling.specs.declared.size.Size.TheVariants.{S4x4, S8x8, S16x16, S32x32}
use Rattle.hevc_scaling.specs.declared.records.Coefs.{Coefs}
use Rattle.hevc_scaling.specs.declared.records.Matrices.{Matrices}

abbrev pub plain_size : Size → table.Size
plain_size S4x4 = table.size_4x4
plain_size S8x8 = table.size_8x8
plain_size S16x16 = table.size_16x16
plain_size S32x32 = table.size_32x32

module _ {N : ℕ} where
  abbrev pub plain_coefs : Coefs N → table.Coefs
  plain_coefs c = record { next_coef = c.next_coef; entries = c.entries }

  abbrev pub plain_matrices : Matrices N → table.Matrices
  plain_matrices m = record { dc_coef_minus8 = m.dc_coef_minus8; entries = m.entries }
