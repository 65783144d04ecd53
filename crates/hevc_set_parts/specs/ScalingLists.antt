use Rattle.hevc_records.specs.ScalingLists.{PlainScalingLists}
use Rattle.hevc_set_parts.specs.declared.scaling_lists.ScalingLists.{ScalingLists}

-- the values of its fields
abbrev pub plain_scaling_lists : ScalingLists → PlainScalingLists
plain_scaling_lists r = record {
  scaling_list_dc_coef_minus8_16x16 = r.scaling_list_dc_coef_minus8_16x16;
  scaling_list_dc_coef_minus8_32x32 = r.scaling_list_dc_coef_minus8_32x32;
  scaling_list_4x4 = r.scaling_list_4x4;
  scaling_list_8x8 = r.scaling_list_8x8;
  scaling_list_16x16 = r.scaling_list_16x16;
  scaling_list_32x32 = r.scaling_list_32x32;
}
