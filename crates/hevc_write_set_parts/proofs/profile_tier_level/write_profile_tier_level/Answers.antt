use Rattle.std.proofs.Common.{refl}
use Rattle.hevc_tables.specs.ProfileTierLevelTable.{profile_tier_level, general_rows, presence}
use Rattle.hevc_tables.specs.ProfileTierLevelTable.{absent_layers, sub_layers}
use Rattle.hevc_write_set_parts.specs.ProfileParts as own
use Rattle.hevc_write_set_parts.proofs.ProfileKeeps.{general_rows_keep, presence_keeps, sub_layers_keep}
use Rattle.hevc_write_elements.proofs.Steps.{part_then, part_written, then_filled, zeros_if_written}
use Rattle.hevc_write_set_parts.proofs.profile_tier_level.write_profile_tier_level.Goals as goal

pub returns : goal.returns
unfolding profile_tier_level absent_layers
returns c = record {
  written = λ w.
      part_then general_rows own.general_rows_of general_rows_keep _ c.in_ok-write_general.ensures refl
      (λ v1 b1 general_rows_rows.
      part_then (presence _) own.presence_of (presence_keeps _) _ c.in_ok-write_presence.ensures refl
      (λ v2 b2 presence_rows.
      then_filled (zeros_if_written _ _ refl _ c.in_ok-write_absent_layers.ensures (λ b3 absent_layers_row.
      part_written (sub_layers _) own.sub_layers_of (sub_layers_keep _) _ c.in_ok-write_sub_layers.ensures
      refl (λ v4 b4 sub_layers_rows e at.
      sub_layers_rows _ e refl (absent_layers_row refl (presence_rows _ e refl (general_rows_rows _ e refl at))))))));
}
