use Rattle.std.proofs.Common.{refl}
use Rattle.hevc_tables.specs.SpsTable.{identity}
use Rattle.hevc_tables.specs.ProfileTierLevelTable.{profile_tier_level}
use Rattle.hevc_write_set_parts.proofs.ProfileKeeps.{profile_tier_level_fillable}
use Rattle.hevc_write_elements.proofs.Steps.{bits_then, by, done_filled, flag_then, numbers}
use Rattle.hevc_write_elements.proofs.Steps.{one_table_written, then_filled, ue_then}
use Rattle.hevc_write_sps.proofs.format.write_identity.Goals as goal

pub returns : goal.returns
unfolding identity
returns c = record {
  written = λ y w.
      bits_then _ refl _ _ _ c.in_ok-bits_u8.ensures (λ v1 _ b1 video_parameter_set_id_row.
      bits_then _ refl _ _ _ c.in_ok-bits_u8-2.ensures (λ v2 _ b2 max_sub_layers_minus1_row.
      flag_then _ refl c.in_ok-flag.ensures (λ v3 b3 temporal_id_nesting_flag_row.
      then_filled (one_table_written profile_tier_level profile_tier_level_fillable _ _
      (numbers _ _) c.in_ok-write_profile_tier_level.ensures (λ v4 b4 profile_tier_level_row.
      ue_then _ refl _ _ c.in_ok-ue_u8.ensures (λ v5 _ b5 seq_parameter_set_id_row.
      done_filled (λ e at.
      seq_parameter_set_id_row (by e (λ r. r.seq_parameter_set_id))
      (profile_tier_level_row (by e (λ r. r.max_sub_layers_minus1)) (by e (λ r. r.profile_tier_level))
      (temporal_id_nesting_flag_row (by e (λ r. r.temporal_id_nesting_flag))
      (max_sub_layers_minus1_row (by e (λ r. r.max_sub_layers_minus1))
      (video_parameter_set_id_row (by e (λ r. r.video_parameter_set_id)) at)))))))))));
}
