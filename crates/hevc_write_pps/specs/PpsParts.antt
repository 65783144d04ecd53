-- The elements that each part of table 11 sets: those of one record, put into another.
use Rattle.hevc_records.specs.Pps.{PlainPps}

-- rows 1 and 2
abbrev pub ids_of : PlainPps → PlainPps → PlainPps
ids_of from x = record x {
  pic_parameter_set_id = from.pic_parameter_set_id;
  seq_parameter_set_id = from.seq_parameter_set_id;
}

-- rows 3 to 7
abbrev pub presence_of : PlainPps → PlainPps → PlainPps
presence_of from x = record x {
  dependent_slice_segments_enabled_flag = from.dependent_slice_segments_enabled_flag;
  output_flag_present_flag = from.output_flag_present_flag;
  num_extra_slice_header_bits = from.num_extra_slice_header_bits;
  sign_data_hiding_enabled_flag = from.sign_data_hiding_enabled_flag;
  cabac_init_present_flag = from.cabac_init_present_flag;
  num_ref_idx_l0_default_active_minus1 = from.num_ref_idx_l0_default_active_minus1;
  num_ref_idx_l1_default_active_minus1 = from.num_ref_idx_l1_default_active_minus1;
}

-- rows 8 to 12
abbrev pub quantiser_elements_of : PlainPps → PlainPps → PlainPps
quantiser_elements_of from x = record x {
  init_qp_minus26 = from.init_qp_minus26;
  constrained_intra_pred_flag = from.constrained_intra_pred_flag;
  transform_skip_enabled_flag = from.transform_skip_enabled_flag;
  cu_qp_delta_enabled_flag = from.cu_qp_delta_enabled_flag;
  diff_cu_qp_delta_depth = from.diff_cu_qp_delta_depth;
  cb_qp_offset = from.cb_qp_offset;
  cr_qp_offset = from.cr_qp_offset;
}

-- rows 8 to 12, and QpBdOffsetY
abbrev pub quantiser_of : PlainPps → PlainPps → PlainPps
quantiser_of from x = record (quantiser_elements_of from x) { qp_bd_offset_y = from.qp_bd_offset_y }

-- row 13
abbrev pub tools_of : PlainPps → PlainPps → PlainPps
tools_of from x = record x {
  slice_chroma_qp_offsets_present_flag = from.slice_chroma_qp_offsets_present_flag;
  weighted_pred_flag = from.weighted_pred_flag;
  weighted_bipred_flag = from.weighted_bipred_flag;
  transquant_bypass_enabled_flag = from.transquant_bypass_enabled_flag;
  tiles_enabled_flag = from.tiles_enabled_flag;
  entropy_coding_sync_enabled_flag = from.entropy_coding_sync_enabled_flag;
}

-- rows 14 to 16
abbrev pub tile_counts_of : PlainPps → PlainPps → PlainPps
tile_counts_of from x = record x {
  num_tile_columns_minus1 = from.num_tile_columns_minus1;
  num_tile_rows_minus1 = from.num_tile_rows_minus1;
  uniform_spacing_flag = from.uniform_spacing_flag;
}

-- rows 17 and 18
abbrev pub told_tiles_of : PlainPps → PlainPps → PlainPps
told_tiles_of from x = record x {
  column_width_minus1 = from.column_width_minus1;
  row_height_minus1 = from.row_height_minus1;
}

-- rows 17 and 18, with rows 14 and 15, the numbers of columns and rows
abbrev pub told_tiles_with_inputs_of : PlainPps → PlainPps → PlainPps
told_tiles_with_inputs_of from x = record (told_tiles_of from x) {
  num_tile_columns_minus1 = from.num_tile_columns_minus1;
  num_tile_rows_minus1 = from.num_tile_rows_minus1;
}

-- rows 22 and 23
abbrev pub filter_offsets_of : PlainPps → PlainPps → PlainPps
filter_offsets_of from x = record x {
  beta_offset_div2 = from.beta_offset_div2;
  tc_offset_div2 = from.tc_offset_div2;
}

-- rows 21 to 23
abbrev pub deblocking_of : PlainPps → PlainPps → PlainPps
deblocking_of from x = record (filter_offsets_of from x) {
  deblocking_filter_override_enabled_flag = from.deblocking_filter_override_enabled_flag;
  deblocking_filter_disabled_flag = from.deblocking_filter_disabled_flag;
}

-- rows 20 to 23
abbrev pub filters_of : PlainPps → PlainPps → PlainPps
filters_of from x = record (deblocking_of from x) {
  loop_filter_across_slices_enabled_flag = from.loop_filter_across_slices_enabled_flag;
  deblocking_filter_control_present_flag = from.deblocking_filter_control_present_flag;
}

-- rows 24 and 25
abbrev pub scaling_of : PlainPps → PlainPps → PlainPps
scaling_of from x = record x {
  scaling_list_data_present_flag = from.scaling_list_data_present_flag;
  scaling_list = from.scaling_list;
}

-- rows 26 to 28, but for the last flag
abbrev pub merging_of : PlainPps → PlainPps → PlainPps
merging_of from x = record x {
  lists_modification_present_flag = from.lists_modification_present_flag;
  log2_parallel_merge_level_minus2 = from.log2_parallel_merge_level_minus2;
  slice_segment_header_extension_present_flag = from.slice_segment_header_extension_present_flag;
}

-- rows 29 to 33
abbrev pub extension_flags_of : PlainPps → PlainPps → PlainPps
extension_flags_of from x = record x {
  range_extension_flag = from.range_extension_flag;
  scc_extension_flag = from.scc_extension_flag;
}

-- row 34
abbrev pub range_extension_of : PlainPps → PlainPps → PlainPps
range_extension_of from x = record x { range_extension = from.range_extension }

-- row 34, with transform_skip_enabled_flag of row 9
abbrev pub range_extension_with_inputs_of : PlainPps → PlainPps → PlainPps
range_extension_with_inputs_of from x = record (range_extension_of from x) {
  transform_skip_enabled_flag = from.transform_skip_enabled_flag;
}

-- row 35
abbrev pub scc_extension_of : PlainPps → PlainPps → PlainPps
scc_extension_of from x = record x { scc_extension = from.scc_extension }

-- rows 29 to 35
abbrev pub extension_data_of : PlainPps → PlainPps → PlainPps
extension_data_of from x =
    scc_extension_of from (range_extension_of from (extension_flags_of from x))

-- rows 29 to 35, with transform_skip_enabled_flag of row 9
abbrev pub extension_data_with_inputs_of : PlainPps → PlainPps → PlainPps
extension_data_with_inputs_of from x = record (extension_data_of from x) {
  transform_skip_enabled_flag = from.transform_skip_enabled_flag;
}

-- the last flag of row 28, and rows 29 to 35
abbrev pub extensions_of : PlainPps → PlainPps → PlainPps
extensions_of from x = record (extension_data_of from x) {
  extension_present_flag = from.extension_present_flag;
}

-- the last flag of row 28, and rows 29 to 35, with transform_skip_enabled_flag of row 9
abbrev pub extensions_with_inputs_of : PlainPps → PlainPps → PlainPps
extensions_with_inputs_of from x = record (extensions_of from x) {
  transform_skip_enabled_flag = from.transform_skip_enabled_flag;
}

-- rows 14 to 19
abbrev pub tiles_of : PlainPps → PlainPps → PlainPps
tiles_of from x = record (told_tiles_of from (tile_counts_of from x)) {
  loop_filter_across_tiles_enabled_flag = from.loop_filter_across_tiles_enabled_flag;
}

-- rows 3 to 19
abbrev pub coding_elements_of : PlainPps → PlainPps → PlainPps
coding_elements_of from x =
    tiles_of from (tools_of from (quantiser_elements_of from (presence_of from x)))

-- rows 3 to 19, and QpBdOffsetY
abbrev pub coding_of : PlainPps → PlainPps → PlainPps
coding_of from x = tiles_of from (tools_of from (quantiser_of from (presence_of from x)))

-- rows 3 to 35
abbrev pub body_elements_of : PlainPps → PlainPps → PlainPps
body_elements_of from x =
    extensions_of from (merging_of from (scaling_of from (filters_of from
    (coding_elements_of from x))))

-- rows 3 to 35, and QpBdOffsetY
abbrev pub body_of : PlainPps → PlainPps → PlainPps
body_of from x =
    extensions_of from (merging_of from (scaling_of from (filters_of from (coding_of from x))))
