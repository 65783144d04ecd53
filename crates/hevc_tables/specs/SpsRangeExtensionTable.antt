-- The range extension of sequence parameter sets (7.3.2.2.2, table 9).
use Rattle.hevc_spec.specs.Table.{Table, done, ◌>>=◌}
use Rattle.hevc_spec.specs.Rows.{row, flag_row}
use Rattle.hevc_records.specs.SpsRangeExtension.{PlainSpsRangeExtension}
use Rattle.hevc_records.specs.SpsRangeExtension.{default_sps_range_extension}

-- table 9 (7.3.2.2.2)
unfoldable pub sps_range_extension : Table PlainSpsRangeExtension
sps_range_extension = do
  let x : PlainSpsRangeExtension = default_sps_range_extension
  let x = record x { transform_skip_rotation_enabled_flag = (← flag_row (row 9 1)) }
  let x = record x { transform_skip_context_enabled_flag = (← flag_row (row 9 1)) }
  let x = record x { implicit_rdpcm_enabled_flag = (← flag_row (row 9 1)) }
  let x = record x { explicit_rdpcm_enabled_flag = (← flag_row (row 9 1)) }
  let x = record x { extended_precision_processing_flag = (← flag_row (row 9 1)) }
  let x = record x { intra_smoothing_disabled_flag = (← flag_row (row 9 1)) }
  let x = record x { high_precision_offsets_enabled_flag = (← flag_row (row 9 1)) }
  let x = record x { persistent_rice_adaptation_enabled_flag = (← flag_row (row 9 1)) }
  let x = record x { cabac_bypass_alignment_enabled_flag = (← flag_row (row 9 1)) }
  done x
