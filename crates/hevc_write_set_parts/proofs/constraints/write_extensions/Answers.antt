use Rattle.std.proofs.Common.{refl}
use Rattle.hevc_tables.specs.ProfileTierLevelTable.{range_extensions_flags, formats, bit_depth_flag}
use Rattle.hevc_write_set_parts.specs.LayerParts as own
use Rattle.hevc_write_set_parts.proofs.LayerKeeps.{formats_keeps, bit_depth_flag_keeps}
use Rattle.hevc_write_elements.proofs.Chains.{ending, part_of, writes, ◌>>=◌}
use Rattle.hevc_write_set_parts.proofs.constraints.write_extensions.Goals as goal

pub returns : goal.returns
unfolding range_extensions_flags
returns c = λ scope. writes λ y w none. do
  rows ← part_of (formats scope) own.formats_of (formats_keeps scope) _ none (c.in_ok-write_formats.ensures scope) refl
  ending (part_of (bit_depth_flag scope) own.bit_depth_flag_of (bit_depth_flag_keeps scope) _ rows.known
      (c.in_ok-write_bit_depth_flag.ensures scope) refl) (λ _ _ rows e at. rows.reach _ e refl at)
