use Rattle.std.specs.Prelude.{ℕ, Bool, false, true, List, [], replicate, ◌∷◌}
use Rattle.hevc_records.specs.HrdParams.{PlainHrdParams}
use Rattle.hevc_records.specs.ProfileTierLevel.{PlainProfileTierLevel, default_profile_tier_level}

-- A video parameter set (H.265 7.3.2.1), with any numbers
pub record PlainVps : Type 0 where
  pub video_parameter_set_id : ℕ
  pub base_layer_internal_flag : Bool
  pub base_layer_available_flag : Bool
  pub max_layers_minus1 : ℕ
  pub max_sub_layers_minus1 : ℕ
  pub temporal_id_nesting_flag : Bool
  pub profile_tier_level : PlainProfileTierLevel
  pub sub_layer_ordering_info_present_flag : Bool
  pub max_dec_pic_buffering_minus1 : List ℕ
  pub max_num_reorder_pics : List ℕ
  pub max_latency_increase_plus1 : List ℕ
  pub max_layer_id : ℕ
  pub num_layer_sets_minus1 : ℕ
  pub timing_info_present_flag : Bool
  pub num_units_in_tick : ℕ
  pub time_scale : ℕ
  pub poc_proportional_to_timing_flag : Bool
  pub num_ticks_poc_diff_one_minus1 : ℕ
  pub num_hrd_parameters : ℕ
  pub hrd_layer_set_idx : List ℕ
  pub cprms_present_flag : List Bool
  pub hrd_parameters : List PlainHrdParams
  pub extension_flag : Bool

-- the value where nothing was read
abbrev pub default_vps : PlainVps
default_vps = record {
  video_parameter_set_id = 0;
  base_layer_internal_flag = false;
  base_layer_available_flag = false;
  max_layers_minus1 = 0;
  max_sub_layers_minus1 = 0;
  temporal_id_nesting_flag = false;
  profile_tier_level = default_profile_tier_level;
  sub_layer_ordering_info_present_flag = false;
  max_dec_pic_buffering_minus1 = replicate 7 0;
  max_num_reorder_pics = replicate 7 0;
  max_latency_increase_plus1 = replicate 7 0;
  max_layer_id = 0;
  num_layer_sets_minus1 = 0;
  timing_info_present_flag = false;
  num_units_in_tick = 0;
  time_scale = 0;
  poc_proportional_to_timing_flag = false;
  num_ticks_poc_diff_one_minus1 = 0;
  num_hrd_parameters = 0;
  hrd_layer_set_idx = [];
  cprms_present_flag = true ∷ [];
  hrd_parameters = [];
  extension_flag = false;
}
