-- What a record has, wherever its units lie in memory.
use Rattle.std.specs.Prelude.{map}
use Rattle.hevc_configuration.specs.declared.record.HevcConfiguration.{HevcConfiguration}
use Rattle.hevc_configuration.specs.declared.record.UnitArray.{UnitArray}
use Rattle.hevc_configuration.specs.Configuration.{PlainArray, PlainConfiguration}

abbrev pub plain_array : UnitArray → PlainArray
plain_array a = record {
  array_completeness = a.array_completeness;
  nal_unit_type = a.nal_unit_type;
  units = map (λ u. u.now) a.units.items;
}

abbrev pub plain : HevcConfiguration → PlainConfiguration
plain c = record {
  general_profile_space = c.general_profile_space;
  general_tier_flag = c.general_tier_flag;
  general_profile_idc = c.general_profile_idc;
  general_profile_compatibility_flags = c.general_profile_compatibility_flags;
  general_constraint_indicator_flags = c.general_constraint_indicator_flags;
  general_level_idc = c.general_level_idc;
  min_spatial_segmentation_idc = c.min_spatial_segmentation_idc;
  parallelism_type = c.parallelism_type;
  chroma_format_idc = c.chroma_format_idc;
  bit_depth_luma_minus8 = c.bit_depth_luma_minus8;
  bit_depth_chroma_minus8 = c.bit_depth_chroma_minus8;
  avg_frame_rate = c.avg_frame_rate;
  constant_frame_rate = c.constant_frame_rate;
  num_temporal_layers = c.num_temporal_layers;
  temporal_id_nested = c.temporal_id_nested;
  length_size = c.length_size;
  arrays = map plain_array c.arrays.items;
}
