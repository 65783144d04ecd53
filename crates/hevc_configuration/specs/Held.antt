-- Records that have room in the table.
use Rattle.std.specs.Prelude.{ℕ, ◌<◌, ◌^◌, List, length}
use Rattle.std.specs.List.{AllByRecursion}
use Rattle.hevc_configuration.specs.Configuration.{PlainArray, PlainConfiguration}

pub record IsArrayHeld (a : PlainArray) : Type 0 where
  pub nal_unit_type : a.nal_unit_type < 64
  pub few : length a.units < 65536
  pub short : AllByRecursion (λ unit. length unit < 65536) a.units

-- each field has its bits, each count and length its room
pub record IsHeld (c : PlainConfiguration) : Type 0 where
  pub general_profile_space : c.general_profile_space < 4
  pub general_profile_idc : c.general_profile_idc < 32
  pub general_profile_compatibility_flags : c.general_profile_compatibility_flags < 2 ^ 32
  pub general_constraint_indicator_flags : c.general_constraint_indicator_flags < 2 ^ 48
  pub general_level_idc : c.general_level_idc < 256
  pub min_spatial_segmentation_idc : c.min_spatial_segmentation_idc < 4096
  pub parallelism_type : c.parallelism_type < 4
  pub chroma_format_idc : c.chroma_format_idc < 4
  pub bit_depth_luma_minus8 : c.bit_depth_luma_minus8 < 8
  pub bit_depth_chroma_minus8 : c.bit_depth_chroma_minus8 < 8
  pub avg_frame_rate : c.avg_frame_rate < 65536
  pub constant_frame_rate : c.constant_frame_rate < 4
  pub num_temporal_layers : c.num_temporal_layers < 8
  pub few : length c.arrays < 256
  pub arrays : AllByRecursion IsArrayHeld c.arrays
