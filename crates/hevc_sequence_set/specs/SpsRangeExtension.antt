use Rattle.hevc_records.specs.SpsRangeExtension.{PlainSpsRangeExtension}
use Rattle.hevc_sequence_set.specs.declared.sps_range_extension.SpsRangeExtension.{SpsRangeExtension}

-- the values of its fields
abbrev pub plain_sps_range_extension : SpsRangeExtension → PlainSpsRangeExtension
plain_sps_range_extension r = record {
  transform_skip_rotation_enabled_flag = r.transform_skip_rotation_enabled_flag;
  transform_skip_context_enabled_flag = r.transform_skip_context_enabled_flag;
  implicit_rdpcm_enabled_flag = r.implicit_rdpcm_enabled_flag;
  explicit_rdpcm_enabled_flag = r.explicit_rdpcm_enabled_flag;
  extended_precision_processing_flag = r.extended_precision_processing_flag;
  intra_smoothing_disabled_flag = r.intra_smoothing_disabled_flag;
  high_precision_offsets_enabled_flag = r.high_precision_offsets_enabled_flag;
  persistent_rice_adaptation_enabled_flag = r.persistent_rice_adaptation_enabled_flag;
  cabac_bypass_alignment_enabled_flag = r.cabac_bypass_alignment_enabled_flag;
}
