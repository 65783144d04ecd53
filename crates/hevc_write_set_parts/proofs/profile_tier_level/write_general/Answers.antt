use Rattle.std.proofs.Common.{refl, sym, ◌∙◌}
use Rattle.hevc_records.specs.ProfileConformance.{is_level}
use Rattle.hevc_tables.specs.ProfileTierLevelTable.{general_rows, with_general_profile, level, general}
use Rattle.hevc_write_set_parts.specs.GeneralProfile.{general_profile}
use Rattle.hevc_write_elements.proofs.Steps.{by, done_filled, number_then, table_then}
use Rattle.hevc_write_set_parts.proofs.profile_tier_level.write_general.Goals as goal

pub returns : goal.returns
unfolding general_rows with_general_profile level
returns c = record {
  written = λ y w.
      table_then (c.in_ok-write_layer_profile.ensures general) (λ v1 b1 general_profile_row.
      number_then _ refl 8 is_level c.in_ok-bits_u8.ensures (λ v2 b2 general_level_idc_row.
      done_filled (λ e at.
      general_level_idc_row (by e (λ r. r.general_level_idc) ∙ sym c.number.ensures)
      (general_profile_row (by e general_profile ∙ sym c.general_profile-layer.ensures) at))));
}
