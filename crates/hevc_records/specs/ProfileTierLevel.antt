use Rattle.std.specs.Prelude.{ℕ, Bool, false, List, replicate}

-- The profile, tier and level of a stream and of its lower sub-layers (H.265 7.3.3),
-- with any numbers
pub record PlainProfileTierLevel : Type 0 where
  pub general_profile_space : ℕ
  pub general_tier_flag : Bool
  pub general_profile_idc : ℕ
  pub general_profile_compatibility_flag : List Bool
  pub general_progressive_source_flag : Bool
  pub general_interlaced_source_flag : Bool
  pub general_non_packed_constraint_flag : Bool
  pub general_frame_only_constraint_flag : Bool
  pub general_max_12bit_constraint_flag : Bool
  pub general_max_10bit_constraint_flag : Bool
  pub general_max_8bit_constraint_flag : Bool
  pub general_max_422chroma_constraint_flag : Bool
  pub general_max_420chroma_constraint_flag : Bool
  pub general_max_monochrome_constraint_flag : Bool
  pub general_intra_constraint_flag : Bool
  pub general_one_picture_only_constraint_flag : Bool
  pub general_lower_bit_rate_constraint_flag : Bool
  pub general_max_14bit_constraint_flag : Bool
  pub general_inbld_flag : Bool
  pub general_level_idc : ℕ
  pub sub_layer_profile_present_flag : List Bool
  pub sub_layer_level_present_flag : List Bool
  pub sub_layer_profile_space : List ℕ
  pub sub_layer_tier_flag : List Bool
  pub sub_layer_profile_idc : List ℕ
  pub sub_layer_profile_compatibility_flag : List (List Bool)
  pub sub_layer_progressive_source_flag : List Bool
  pub sub_layer_interlaced_source_flag : List Bool
  pub sub_layer_non_packed_constraint_flag : List Bool
  pub sub_layer_frame_only_constraint_flag : List Bool
  pub sub_layer_max_12bit_constraint_flag : List Bool
  pub sub_layer_max_10bit_constraint_flag : List Bool
  pub sub_layer_max_8bit_constraint_flag : List Bool
  pub sub_layer_max_422chroma_constraint_flag : List Bool
  pub sub_layer_max_420chroma_constraint_flag : List Bool
  pub sub_layer_max_monochrome_constraint_flag : List Bool
  pub sub_layer_intra_constraint_flag : List Bool
  pub sub_layer_one_picture_only_constraint_flag : List Bool
  pub sub_layer_lower_bit_rate_constraint_flag : List Bool
  pub sub_layer_max_14bit_constraint_flag : List Bool
  pub sub_layer_inbld_flag : List Bool
  pub sub_layer_level_idc : List ℕ

-- the value where nothing was read
abbrev pub default_profile_tier_level : PlainProfileTierLevel
default_profile_tier_level = record {
  general_profile_space = 0;
  general_tier_flag = false;
  general_profile_idc = 0;
  general_profile_compatibility_flag = replicate 32 false;
  general_progressive_source_flag = false;
  general_interlaced_source_flag = false;
  general_non_packed_constraint_flag = false;
  general_frame_only_constraint_flag = false;
  general_max_12bit_constraint_flag = false;
  general_max_10bit_constraint_flag = false;
  general_max_8bit_constraint_flag = false;
  general_max_422chroma_constraint_flag = false;
  general_max_420chroma_constraint_flag = false;
  general_max_monochrome_constraint_flag = false;
  general_intra_constraint_flag = false;
  general_one_picture_only_constraint_flag = false;
  general_lower_bit_rate_constraint_flag = false;
  general_max_14bit_constraint_flag = false;
  general_inbld_flag = false;
  general_level_idc = 30;
  sub_layer_profile_present_flag = replicate 6 false;
  sub_layer_level_present_flag = replicate 6 false;
  sub_layer_profile_space = replicate 6 0;
  sub_layer_tier_flag = replicate 6 false;
  sub_layer_profile_idc = replicate 6 0;
  sub_layer_profile_compatibility_flag = replicate 6 (replicate 32 false);
  sub_layer_progressive_source_flag = replicate 6 false;
  sub_layer_interlaced_source_flag = replicate 6 false;
  sub_layer_non_packed_constraint_flag = replicate 6 false;
  sub_layer_frame_only_constraint_flag = replicate 6 false;
  sub_layer_max_12bit_constraint_flag = replicate 6 false;
  sub_layer_max_10bit_constraint_flag = replicate 6 false;
  sub_layer_max_8bit_constraint_flag = replicate 6 false;
  sub_layer_max_422chroma_constraint_flag = replicate 6 false;
  sub_layer_max_420chroma_constraint_flag = replicate 6 false;
  sub_layer_max_monochrome_constraint_flag = replicate 6 false;
  sub_layer_intra_constraint_flag = replicate 6 false;
  sub_layer_one_picture_only_constraint_flag = replicate 6 false;
  sub_layer_lower_bit_rate_constraint_flag = replicate 6 false;
  sub_layer_max_14bit_constraint_flag = replicate 6 false;
  sub_layer_inbld_flag = replicate 6 false;
  sub_layer_level_idc = replicate 6 30;
}
