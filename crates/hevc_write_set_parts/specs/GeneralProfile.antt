-- What is written of the whole stream.
use Rattle.hevc_records.specs.ProfileTierLevel.{PlainProfileTierLevel}
use Rattle.hevc_tables.specs.ProfileTierLevelTable as table

-- what is told of the whole stream
abbrev pub general_profile : PlainProfileTierLevel → table.LayerProfile
general_profile t = record {
  profile_space = t.general_profile_space;
  tier_flag = t.general_tier_flag;
  profile_idc = t.general_profile_idc;
  profile_compatibility_flag = t.general_profile_compatibility_flag;
  progressive_source_flag = t.general_progressive_source_flag;
  interlaced_source_flag = t.general_interlaced_source_flag;
  non_packed_constraint_flag = t.general_non_packed_constraint_flag;
  frame_only_constraint_flag = t.general_frame_only_constraint_flag;
  max_12bit_constraint_flag = t.general_max_12bit_constraint_flag;
  max_10bit_constraint_flag = t.general_max_10bit_constraint_flag;
  max_8bit_constraint_flag = t.general_max_8bit_constraint_flag;
  max_422chroma_constraint_flag = t.general_max_422chroma_constraint_flag;
  max_420chroma_constraint_flag = t.general_max_420chroma_constraint_flag;
  max_monochrome_constraint_flag = t.general_max_monochrome_constraint_flag;
  intra_constraint_flag = t.general_intra_constraint_flag;
  one_picture_only_constraint_flag = t.general_one_picture_only_constraint_flag;
  lower_bit_rate_constraint_flag = t.general_lower_bit_rate_constraint_flag;
  max_14bit_constraint_flag = t.general_max_14bit_constraint_flag;
  inbld_flag = t.general_inbld_flag;
}
