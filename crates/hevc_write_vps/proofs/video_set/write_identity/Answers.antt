use Rattle.std.proofs.Common.{refl, arith}
use Rattle.hevc_tables.specs.VpsTable.{identity}
use Rattle.hevc_spec.specs.Rows.{row}
use Rattle.hevc_tables.specs.ProfileTierLevelTable.{profile_tier_level}
use Rattle.hevc_write_set_parts.proofs.ProfileKeeps.{profile_tier_level_fillable}
use Rattle.hevc_write_elements.proofs.Steps.{bits_then, by, done_filled, flag_then, numbers}
use Rattle.hevc_write_elements.proofs.Steps.{one_table_written, skip_written, then_filled}
use Rattle.hevc_write_vps.proofs.video_set.write_identity.Goals as goal

pub returns : goal.returns
unfolding identity
returns c = record {
  written = λ y w.
      bits_then _ refl _ _ _ c.in_ok-bits_u8.ensures (λ v1 _ b1 video_parameter_set_id_row.
      flag_then _ refl c.in_ok-flag.ensures (λ v2 b2 base_layer_internal_flag_row.
      flag_then _ refl c.in_ok-flag-2.ensures (λ v3 b3 base_layer_available_flag_row.
      bits_then _ refl _ _ _ c.in_ok-bits_u8-2.ensures (λ v4 _ b4 max_layers_minus1_row.
      bits_then _ refl _ _ _ c.in_ok-bits_u8-3.ensures (λ v5 _ b5 max_sub_layers_minus1_row.
      flag_then _ refl c.in_ok-flag-3.ensures (λ v6 b6 temporal_id_nesting_flag_row.
      then_filled (skip_written (row 1 6) 16 (omega arith) c.in_ok-bits.ensures (λ b7 bits_row.
      then_filled (one_table_written profile_tier_level profile_tier_level_fillable _ _
      (numbers _ _) c.in_ok-write_profile_tier_level.ensures (λ v8 b8 profile_tier_level_row.
      done_filled (λ e at.
      profile_tier_level_row (by e (λ r. r.max_sub_layers_minus1)) (by e (λ r. r.profile_tier_level))
      (bits_row (temporal_id_nesting_flag_row (by e (λ r. r.temporal_id_nesting_flag))
      (max_sub_layers_minus1_row (by e (λ r. r.max_sub_layers_minus1))
      (max_layers_minus1_row (by e (λ r. r.max_layers_minus1))
      (base_layer_available_flag_row (by e (λ r. r.base_layer_available_flag))
      (base_layer_internal_flag_row (by e (λ r. r.base_layer_internal_flag))
      (video_parameter_set_id_row (by e (λ r. r.video_parameter_set_id)) at))))))))))))))))));
}
