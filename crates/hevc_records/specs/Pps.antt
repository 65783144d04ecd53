use Rattle.std.specs.Prelude.{ℕ, ℤ, pos, Bool, false, true, List, replicate}
use Rattle.hevc_records.specs.ScalingLists.{PlainScalingLists, zero_scaling_lists}
use Rattle.hevc_records.specs.PpsRangeExtension.{PlainPpsRangeExtension}
use Rattle.hevc_records.specs.PpsRangeExtension.{default_pps_range_extension}
use Rattle.hevc_records.specs.PpsSccExtension.{PlainPpsSccExtension, default_pps_scc_extension}

-- A picture parameter set (H.265 7.3.2.3.1), with any numbers
pub record PlainPps : Type 0 where
  pub pic_parameter_set_id : ℕ
  pub seq_parameter_set_id : ℕ
  pub dependent_slice_segments_enabled_flag : Bool
  pub output_flag_present_flag : Bool
  pub num_extra_slice_header_bits : ℕ
  pub sign_data_hiding_enabled_flag : Bool
  pub cabac_init_present_flag : Bool
  pub num_ref_idx_l0_default_active_minus1 : ℕ
  pub num_ref_idx_l1_default_active_minus1 : ℕ
  pub init_qp_minus26 : ℤ
  pub constrained_intra_pred_flag : Bool
  pub transform_skip_enabled_flag : Bool
  pub cu_qp_delta_enabled_flag : Bool
  pub diff_cu_qp_delta_depth : ℕ
  pub cb_qp_offset : ℤ
  pub cr_qp_offset : ℤ
  pub slice_chroma_qp_offsets_present_flag : Bool
  pub weighted_pred_flag : Bool
  pub weighted_bipred_flag : Bool
  pub transquant_bypass_enabled_flag : Bool
  pub tiles_enabled_flag : Bool
  pub entropy_coding_sync_enabled_flag : Bool
  pub num_tile_columns_minus1 : ℕ
  pub num_tile_rows_minus1 : ℕ
  pub uniform_spacing_flag : Bool
  pub column_width_minus1 : List ℕ
  pub row_height_minus1 : List ℕ
  pub loop_filter_across_tiles_enabled_flag : Bool
  pub loop_filter_across_slices_enabled_flag : Bool
  pub deblocking_filter_control_present_flag : Bool
  pub deblocking_filter_override_enabled_flag : Bool
  pub deblocking_filter_disabled_flag : Bool
  pub beta_offset_div2 : ℤ
  pub tc_offset_div2 : ℤ
  pub scaling_list_data_present_flag : Bool
  pub scaling_list : PlainScalingLists
  pub lists_modification_present_flag : Bool
  pub log2_parallel_merge_level_minus2 : ℕ
  pub slice_segment_header_extension_present_flag : Bool
  pub extension_present_flag : Bool
  pub range_extension_flag : Bool
  pub scc_extension_flag : Bool
  pub range_extension : PlainPpsRangeExtension
  pub scc_extension : PlainPpsSccExtension
  pub qp_bd_offset_y : ℕ
  pub temporal_id : ℕ

-- the value where nothing was read
abbrev pub default_pps : PlainPps
default_pps = record {
  pic_parameter_set_id = 0;
  seq_parameter_set_id = 0;
  dependent_slice_segments_enabled_flag = false;
  output_flag_present_flag = false;
  num_extra_slice_header_bits = 0;
  sign_data_hiding_enabled_flag = false;
  cabac_init_present_flag = false;
  num_ref_idx_l0_default_active_minus1 = 0;
  num_ref_idx_l1_default_active_minus1 = 0;
  init_qp_minus26 = pos 0;
  constrained_intra_pred_flag = false;
  transform_skip_enabled_flag = false;
  cu_qp_delta_enabled_flag = false;
  diff_cu_qp_delta_depth = 0;
  cb_qp_offset = pos 0;
  cr_qp_offset = pos 0;
  slice_chroma_qp_offsets_present_flag = false;
  weighted_pred_flag = false;
  weighted_bipred_flag = false;
  transquant_bypass_enabled_flag = false;
  tiles_enabled_flag = false;
  entropy_coding_sync_enabled_flag = false;
  num_tile_columns_minus1 = 0;
  num_tile_rows_minus1 = 0;
  uniform_spacing_flag = true;
  column_width_minus1 = replicate 20 0;
  row_height_minus1 = replicate 22 0;
  loop_filter_across_tiles_enabled_flag = true;
  loop_filter_across_slices_enabled_flag = false;
  deblocking_filter_control_present_flag = false;
  deblocking_filter_override_enabled_flag = false;
  deblocking_filter_disabled_flag = false;
  beta_offset_div2 = pos 0;
  tc_offset_div2 = pos 0;
  scaling_list_data_present_flag = false;
  scaling_list = zero_scaling_lists;
  lists_modification_present_flag = false;
  log2_parallel_merge_level_minus2 = 0;
  slice_segment_header_extension_present_flag = false;
  extension_present_flag = false;
  range_extension_flag = false;
  scc_extension_flag = false;
  range_extension = default_pps_range_extension;
  scc_extension = default_pps_scc_extension;
  qp_bd_offset_y = 0;
  temporal_id = 0;
}
