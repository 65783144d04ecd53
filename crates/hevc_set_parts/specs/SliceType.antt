use Rattle.std.specs.Prelude.{ℕ}
use Rattle.hevc_set_parts.specs.declared.slice_type.SliceType.{SliceType}
use Rattle.hevc_set_parts.specs.declared.slice_type.SliceType.TheVariants.{B, P, I}

-- The number of a slice type (H.265 7.4.7.1, Table 7-7).
abbrev pub slice_type_number : SliceType → ℕ
slice_type_number B = 0
slice_type_number P = 1
slice_type_number I = 2
