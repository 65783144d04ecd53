-- The picture parameter set as Linux's stateless decoders take it.
use Rattle.std.specs.Prelude.{[], ◌∷◌, not, if◌then◌else◌, Option, Some, None}
use Rattle.std.specs.List.{list_all}
use Rattle.hevc_records.specs.Pps.{PlainPps}
use Rattle.hevc_v4l2.specs.declared.error.ControlError.{ControlError}
use Rattle.hevc_v4l2.specs.declared.error.ControlError.TheVariants.{TileColumns, TileRows}
use Rattle.hevc_v4l2.specs.declared.picture_set.V4l2CtrlHevcPps.{V4l2CtrlHevcPps}
use Rattle.hevc_v4l2.specs.Arrays.{is_byte}
use Rattle.hevc_events.specs.Flags.{flags_of}

-- the first thing that the struct can't hold
abbrev pub pps_error : PlainPps → Option ControlError
pps_error p =
    if not (list_all is_byte p.column_width_minus1) then Some TileColumns
    else if not (list_all is_byte p.row_height_minus1) then Some TileRows
    else None

-- Each field has the element of its name. The flags are in the order of V4L2_HEVC_PPS_FLAG_*.
abbrev pub control_of_pps : PlainPps → V4l2CtrlHevcPps
control_of_pps p = record {
  pic_parameter_set_id = p.pic_parameter_set_id;
  num_extra_slice_header_bits = p.num_extra_slice_header_bits;
  num_ref_idx_l0_default_active_minus1 = p.num_ref_idx_l0_default_active_minus1;
  num_ref_idx_l1_default_active_minus1 = p.num_ref_idx_l1_default_active_minus1;
  init_qp_minus26 = p.init_qp_minus26;
  diff_cu_qp_delta_depth = p.diff_cu_qp_delta_depth;
  pps_cb_qp_offset = p.cb_qp_offset;
  pps_cr_qp_offset = p.cr_qp_offset;
  num_tile_columns_minus1 = p.num_tile_columns_minus1;
  num_tile_rows_minus1 = p.num_tile_rows_minus1;
  column_width_minus1 = p.column_width_minus1;
  row_height_minus1 = p.row_height_minus1;
  pps_beta_offset_div2 = p.beta_offset_div2;
  pps_tc_offset_div2 = p.tc_offset_div2;
  log2_parallel_merge_level_minus2 = p.log2_parallel_merge_level_minus2;
  reserved = 0;
  flags =
      flags_of
      (p.dependent_slice_segments_enabled_flag ∷
      p.output_flag_present_flag ∷
      p.sign_data_hiding_enabled_flag ∷
      p.cabac_init_present_flag ∷
      p.constrained_intra_pred_flag ∷
      p.transform_skip_enabled_flag ∷
      p.cu_qp_delta_enabled_flag ∷
      p.slice_chroma_qp_offsets_present_flag ∷
      p.weighted_pred_flag ∷
      p.weighted_bipred_flag ∷
      p.transquant_bypass_enabled_flag ∷
      p.tiles_enabled_flag ∷
      p.entropy_coding_sync_enabled_flag ∷
      p.loop_filter_across_tiles_enabled_flag ∷
      p.loop_filter_across_slices_enabled_flag ∷
      p.deblocking_filter_override_enabled_flag ∷
      p.deblocking_filter_disabled_flag ∷
      p.lists_modification_present_flag ∷
      p.slice_segment_header_extension_present_flag ∷
      p.deblocking_filter_control_present_flag ∷
      p.uniform_spacing_flag ∷ []);
}
