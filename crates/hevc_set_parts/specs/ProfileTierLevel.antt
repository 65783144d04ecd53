use Rattle.std.specs.Prelude.{map}
use Rattle.hevc_records.specs.ProfileTierLevel.{PlainProfileTierLevel}
use Rattle.hevc_set_parts.specs.declared.profile_tier_level.ProfileTierLevel.{ProfileTierLevel}
use Rattle.hevc_set_parts.specs.Level.{level_number}

-- the values of its fields
abbrev pub plain_profile_tier_level : ProfileTierLevel → PlainProfileTierLevel
plain_profile_tier_level r = record {
  general_profile_space = r.general_profile_space;
  general_tier_flag = r.general_tier_flag;
  general_profile_idc = r.general_profile_idc;
  general_profile_compatibility_flag = r.general_profile_compatibility_flag;
  general_progressive_source_flag = r.general_progressive_source_flag;
  general_interlaced_source_flag = r.general_interlaced_source_flag;
  general_non_packed_constraint_flag = r.general_non_packed_constraint_flag;
  general_frame_only_constraint_flag = r.general_frame_only_constraint_flag;
  general_max_12bit_constraint_flag = r.general_max_12bit_constraint_flag;
  general_max_10bit_constraint_flag = r.general_max_10bit_constraint_flag;
  general_max_8bit_constraint_flag = r.general_max_8bit_constraint_flag;
  general_max_422chroma_constraint_flag = r.general_max_422chroma_constraint_flag;
  general_max_420chroma_constraint_flag = r.general_max_420chroma_constraint_flag;
  general_max_monochrome_constraint_flag = r.general_max_monochrome_constraint_flag;
  general_intra_constraint_flag = r.general_intra_constraint_flag;
  general_one_picture_only_constraint_flag = r.general_one_picture_only_constraint_flag;
  general_lower_bit_rate_constraint_flag = r.general_lower_bit_rate_constraint_flag;
  general_max_14bit_constraint_flag = r.general_max_14bit_constraint_flag;
  general_inbld_flag = r.general_inbld_flag;
  general_level_idc = level_number r.general_level_idc;
  sub_layer_profile_present_flag = r.sub_layer_profile_present_flag;
  sub_layer_level_present_flag = r.sub_layer_level_present_flag;
  sub_layer_profile_space = r.sub_layer_profile_space;
  sub_layer_tier_flag = r.sub_layer_tier_flag;
  sub_layer_profile_idc = r.sub_layer_profile_idc;
  sub_layer_profile_compatibility_flag = r.sub_layer_profile_compatibility_flag;
  sub_layer_progressive_source_flag = r.sub_layer_progressive_source_flag;
  sub_layer_interlaced_source_flag = r.sub_layer_interlaced_source_flag;
  sub_layer_non_packed_constraint_flag = r.sub_layer_non_packed_constraint_flag;
  sub_layer_frame_only_constraint_flag = r.sub_layer_frame_only_constraint_flag;
  sub_layer_max_12bit_constraint_flag = r.sub_layer_max_12bit_constraint_flag;
  sub_layer_max_10bit_constraint_flag = r.sub_layer_max_10bit_constraint_flag;
  sub_layer_max_8bit_constraint_flag = r.sub_layer_max_8bit_constraint_flag;
  sub_layer_max_422chroma_constraint_flag = r.sub_layer_max_422chroma_constraint_flag;
  sub_layer_max_420chroma_constraint_flag = r.sub_layer_max_420chroma_constraint_flag;
  sub_layer_max_monochrome_constraint_flag = r.sub_layer_max_monochrome_constraint_flag;
  sub_layer_intra_constraint_flag = r.sub_layer_intra_constraint_flag;
  sub_layer_one_picture_only_constraint_flag = r.sub_layer_one_picture_only_constraint_flag;
  sub_layer_lower_bit_rate_constraint_flag = r.sub_layer_lower_bit_rate_constraint_flag;
  sub_layer_max_14bit_constraint_flag = r.sub_layer_max_14bit_constraint_flag;
  sub_layer_inbld_flag = r.sub_layer_inbld_flag;
  sub_layer_level_idc = map level_number r.sub_layer_level_idc;
}
