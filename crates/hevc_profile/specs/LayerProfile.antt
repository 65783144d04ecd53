-- What is told of a layer, as in the table.
use Rattle.hevc_tables.specs.ProfileTierLevelTable as table
use Rattle.hevc_profile.specs.declared.layer_profile.LayerProfile.{LayerProfile}

abbrev pub plain_layer_profile : LayerProfile → table.LayerProfile
plain_layer_profile x = record {
  profile_space = x.profile_space;
  tier_flag = x.tier_flag;
  profile_idc = x.profile_idc;
  profile_compatibility_flag = x.profile_compatibility_flag;
  progressive_source_flag = x.progressive_source_flag;
  interlaced_source_flag = x.interlaced_source_flag;
  non_packed_constraint_flag = x.non_packed_constraint_flag;
  frame_only_constraint_flag = x.frame_only_constraint_flag;
  max_12bit_constraint_flag = x.max_12bit_constraint_flag;
  max_10bit_constraint_flag = x.max_10bit_constraint_flag;
  max_8bit_constraint_flag = x.max_8bit_constraint_flag;
  max_422chroma_constraint_flag = x.max_422chroma_constraint_flag;
  max_420chroma_constraint_flag = x.max_420chroma_constraint_flag;
  max_monochrome_constraint_flag = x.max_monochrome_constraint_flag;
  intra_constraint_flag = x.intra_constraint_flag;
  one_picture_only_constraint_flag = x.one_picture_only_constraint_flag;
  lower_bit_rate_constraint_flag = x.lower_bit_rate_constraint_flag;
  max_14bit_constraint_flag = x.max_14bit_constraint_flag;
  inbld_flag = x.inbld_flag;
}
