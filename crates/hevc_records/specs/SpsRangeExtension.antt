use Rattle.std.specs.Prelude.{Bool, false}

-- The range extension of a sequence parameter set (H.265 7.3.2.2.2)
pub record PlainSpsRangeExtension : Type 0 where
  pub transform_skip_rotation_enabled_flag : Bool
  pub transform_skip_context_enabled_flag : Bool
  pub implicit_rdpcm_enabled_flag : Bool
  pub explicit_rdpcm_enabled_flag : Bool
  pub extended_precision_processing_flag : Bool
  pub intra_smoothing_disabled_flag : Bool
  pub high_precision_offsets_enabled_flag : Bool
  pub persistent_rice_adaptation_enabled_flag : Bool
  pub cabac_bypass_alignment_enabled_flag : Bool

-- the value where nothing was read
abbrev pub default_sps_range_extension : PlainSpsRangeExtension
default_sps_range_extension = record {
  transform_skip_rotation_enabled_flag = false;
  transform_skip_context_enabled_flag = false;
  implicit_rdpcm_enabled_flag = false;
  explicit_rdpcm_enabled_flag = false;
  extended_precision_processing_flag = false;
  intra_smoothing_disabled_flag = false;
  high_precision_offsets_enabled_flag = false;
  persistent_rice_adaptation_enabled_flag = false;
  cabac_bypass_alignment_enabled_flag = false;
}
