-- The fields of a picture parameter set.
use Rattle.std.specs.Prelude.{ℕ, [], ◌∷◌}
use Rattle.hevc_records.specs.Pps.{PlainPps}
use Rattle.hevc_events.specs.Flags.{flags_of}
use Rattle.hevc_pull.specs.declared.fields.pps.PpsFields.{PpsFields}

-- the first at bit 0
abbrev pub pps_flags : PlainPps → ℕ
pps_flags p =
    flags_of
    (p.dependent_slice_segments_enabled_flag ∷
    p.output_flag_present_flag ∷
    p.sign_data_hiding_enabled_flag ∷
    p.cabac_init_present_flag ∷
    p.constrained_intra_pred_flag ∷
    p.transform_skip_enabled_flag ∷
    p.cu_qp_delta_enabled_flag ∷
    p.slice_chroma_qp_offsets_present_flag ∷
    p.weighted_pred_flag ∷
    p.weighted_bipred_flag ∷
    p.transquant_bypass_enabled_flag ∷
    p.tiles_enabled_flag ∷
    p.entropy_coding_sync_enabled_flag ∷
    p.loop_filter_across_tiles_enabled_flag ∷
    p.loop_filter_across_slices_enabled_flag ∷
    p.deblocking_filter_override_enabled_flag ∷
    p.deblocking_filter_disabled_flag ∷
    p.lists_modification_present_flag ∷
    p.slice_segment_header_extension_present_flag ∷
    p.deblocking_filter_control_present_flag ∷
    p.uniform_spacing_flag ∷
    p.scaling_list_data_present_flag ∷
    p.extension_present_flag ∷
    p.range_extension_flag ∷
    p.scc_extension_flag ∷ [])

-- each field has the element of its name
abbrev pub fields_of_pps : PlainPps → PpsFields
fields_of_pps p = record {
  pps_pic_parameter_set_id = p.pic_parameter_set_id;
  pps_seq_parameter_set_id = p.seq_parameter_set_id;
  num_extra_slice_header_bits = p.num_extra_slice_header_bits;
  num_ref_idx_l0_default_active_minus1 = p.num_ref_idx_l0_default_active_minus1;
  num_ref_idx_l1_default_active_minus1 = p.num_ref_idx_l1_default_active_minus1;
  init_qp_minus26 = p.init_qp_minus26;
  diff_cu_qp_delta_depth = p.diff_cu_qp_delta_depth;
  pps_cb_qp_offset = p.cb_qp_offset;
  pps_cr_qp_offset = p.cr_qp_offset;
  num_tile_columns_minus1 = p.num_tile_columns_minus1;
  num_tile_rows_minus1 = p.num_tile_rows_minus1;
  pps_beta_offset_div2 = p.beta_offset_div2;
  pps_tc_offset_div2 = p.tc_offset_div2;
  log2_parallel_merge_level_minus2 = p.log2_parallel_merge_level_minus2;
  column_width_minus1 = p.column_width_minus1;
  row_height_minus1 = p.row_height_minus1;
  flags = pps_flags p;
}
