use Rattle.hevc_records.specs.Pps.{PlainPps}
use Rattle.hevc_picture_slice.specs.declared.pps.Pps.{Pps}
use Rattle.hevc_set_parts.specs.ScalingLists.{plain_scaling_lists}
use Rattle.hevc_set_parts.specs.PpsRangeExtension.{plain_pps_range_extension}
use Rattle.hevc_set_parts.specs.PpsSccExtension.{plain_pps_scc_extension}

-- the values of its fields
abbrev pub plain_pps : Pps → PlainPps
plain_pps r = record {
  pic_parameter_set_id = r.pic_parameter_set_id;
  seq_parameter_set_id = r.seq_parameter_set_id;
  dependent_slice_segments_enabled_flag = r.dependent_slice_segments_enabled_flag;
  output_flag_present_flag = r.output_flag_present_flag;
  num_extra_slice_header_bits = r.num_extra_slice_header_bits;
  sign_data_hiding_enabled_flag = r.sign_data_hiding_enabled_flag;
  cabac_init_present_flag = r.cabac_init_present_flag;
  num_ref_idx_l0_default_active_minus1 = r.num_ref_idx_l0_default_active_minus1;
  num_ref_idx_l1_default_active_minus1 = r.num_ref_idx_l1_default_active_minus1;
  init_qp_minus26 = r.init_qp_minus26;
  constrained_intra_pred_flag = r.constrained_intra_pred_flag;
  transform_skip_enabled_flag = r.transform_skip_enabled_flag;
  cu_qp_delta_enabled_flag = r.cu_qp_delta_enabled_flag;
  diff_cu_qp_delta_depth = r.diff_cu_qp_delta_depth;
  cb_qp_offset = r.cb_qp_offset;
  cr_qp_offset = r.cr_qp_offset;
  slice_chroma_qp_offsets_present_flag = r.slice_chroma_qp_offsets_present_flag;
  weighted_pred_flag = r.weighted_pred_flag;
  weighted_bipred_flag = r.weighted_bipred_flag;
  transquant_bypass_enabled_flag = r.transquant_bypass_enabled_flag;
  tiles_enabled_flag = r.tiles_enabled_flag;
  entropy_coding_sync_enabled_flag = r.entropy_coding_sync_enabled_flag;
  num_tile_columns_minus1 = r.num_tile_columns_minus1;
  num_tile_rows_minus1 = r.num_tile_rows_minus1;
  uniform_spacing_flag = r.uniform_spacing_flag;
  column_width_minus1 = r.column_width_minus1;
  row_height_minus1 = r.row_height_minus1;
  loop_filter_across_tiles_enabled_flag = r.loop_filter_across_tiles_enabled_flag;
  loop_filter_across_slices_enabled_flag = r.loop_filter_across_slices_enabled_flag;
  deblocking_filter_control_present_flag = r.deblocking_filter_control_present_flag;
  deblocking_filter_override_enabled_flag = r.deblocking_filter_override_enabled_flag;
  deblocking_filter_disabled_flag = r.deblocking_filter_disabled_flag;
  beta_offset_div2 = r.beta_offset_div2;
  tc_offset_div2 = r.tc_offset_div2;
  scaling_list_data_present_flag = r.scaling_list_data_present_flag;
  scaling_list = plain_scaling_lists r.scaling_list;
  lists_modification_present_flag = r.lists_modification_present_flag;
  log2_parallel_merge_level_minus2 = r.log2_parallel_merge_level_minus2;
  slice_segment_header_extension_present_flag = r.slice_segment_header_extension_present_flag;
  extension_present_flag = r.extension_present_flag;
  range_extension_flag = r.range_extension_flag;
  scc_extension_flag = r.scc_extension_flag;
  range_extension = plain_pps_range_extension r.range_extension;
  scc_extension = plain_pps_scc_extension r.scc_extension;
  qp_bd_offset_y = r.qp_bd_offset_y;
  temporal_id = r.temporal_id;
}
