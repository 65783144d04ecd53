-- The fields of video usability information.
use Rattle.std.specs.Prelude.{ℕ, [], ◌∷◌}
use Rattle.hevc_records.specs.VuiParams.{PlainVuiParams}
use Rattle.hevc_events.specs.Flags.{flags_of}
use Rattle.hevc_pull.specs.declared.fields.vui.VuiFields.{VuiFields}

-- the first at bit 0
abbrev pub vui_flags : PlainVuiParams → ℕ
vui_flags v =
    flags_of
    (v.aspect_ratio_info_present_flag ∷
    v.overscan_info_present_flag ∷
    v.overscan_appropriate_flag ∷
    v.video_signal_type_present_flag ∷
    v.video_full_range_flag ∷
    v.colour_description_present_flag ∷
    v.chroma_loc_info_present_flag ∷
    v.neutral_chroma_indication_flag ∷
    v.field_seq_flag ∷
    v.frame_field_info_present_flag ∷
    v.default_display_window_flag ∷
    v.timing_info_present_flag ∷
    v.poc_proportional_to_timing_flag ∷
    v.hrd_parameters_present_flag ∷
    v.bitstream_restriction_flag ∷
    v.tiles_fixed_structure_flag ∷
    v.motion_vectors_over_pic_boundaries_flag ∷
    v.restricted_ref_pic_lists_flag ∷ [])

-- each field has the element of its name
abbrev pub fields_of_vui : PlainVuiParams → VuiFields
fields_of_vui v = record {
  aspect_ratio_idc = v.aspect_ratio_idc;
  sar_width = v.sar_width;
  sar_height = v.sar_height;
  video_format = v.video_format;
  colour_primaries = v.colour_primaries;
  transfer_characteristics = v.transfer_characteristics;
  matrix_coeffs = v.matrix_coeffs;
  chroma_sample_loc_type_top_field = v.chroma_sample_loc_type_top_field;
  chroma_sample_loc_type_bottom_field = v.chroma_sample_loc_type_bottom_field;
  def_disp_win_left_offset = v.def_disp_win_left_offset;
  def_disp_win_right_offset = v.def_disp_win_right_offset;
  def_disp_win_top_offset = v.def_disp_win_top_offset;
  def_disp_win_bottom_offset = v.def_disp_win_bottom_offset;
  vui_num_units_in_tick = v.num_units_in_tick;
  vui_time_scale = v.time_scale;
  vui_num_ticks_poc_diff_one_minus1 = v.num_ticks_poc_diff_one_minus1;
  min_spatial_segmentation_idc = v.min_spatial_segmentation_idc;
  max_bytes_per_pic_denom = v.max_bytes_per_pic_denom;
  max_bits_per_min_cu_denom = v.max_bits_per_min_cu_denom;
  log2_max_mv_length_horizontal = v.log2_max_mv_length_horizontal;
  log2_max_mv_length_vertical = v.log2_max_mv_length_vertical;
  flags = vui_flags v;
}
