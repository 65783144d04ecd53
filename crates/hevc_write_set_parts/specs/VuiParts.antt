-- The elements that each part of table 8 sets: those of one record, put into another.
use Rattle.hevc_records.specs.VuiParams.{PlainVuiParams}

-- rows 1 to 3
abbrev pub aspect_ratio_of : PlainVuiParams → PlainVuiParams → PlainVuiParams
aspect_ratio_of from x = record x {
  aspect_ratio_info_present_flag = from.aspect_ratio_info_present_flag;
  aspect_ratio_idc = from.aspect_ratio_idc;
  sar_width = from.sar_width;
  sar_height = from.sar_height;
}

-- rows 4 and 5
abbrev pub overscan_of : PlainVuiParams → PlainVuiParams → PlainVuiParams
overscan_of from x = record x {
  overscan_info_present_flag = from.overscan_info_present_flag;
  overscan_appropriate_flag = from.overscan_appropriate_flag;
}

-- row 9
abbrev pub colours_of : PlainVuiParams → PlainVuiParams → PlainVuiParams
colours_of from x = record x {
  colour_primaries = from.colour_primaries;
  transfer_characteristics = from.transfer_characteristics;
  matrix_coeffs = from.matrix_coeffs;
}

-- rows 7 to 9
abbrev pub signal_of : PlainVuiParams → PlainVuiParams → PlainVuiParams
signal_of from x = record (colours_of from x) {
  video_format = from.video_format;
  video_full_range_flag = from.video_full_range_flag;
  colour_description_present_flag = from.colour_description_present_flag;
}

-- rows 6 to 9
abbrev pub signal_type_of : PlainVuiParams → PlainVuiParams → PlainVuiParams
signal_type_of from x = record (signal_of from x) {
  video_signal_type_present_flag = from.video_signal_type_present_flag;
}

-- rows 10 to 12
abbrev pub chroma_places_of : PlainVuiParams → PlainVuiParams → PlainVuiParams
chroma_places_of from x = record x {
  chroma_loc_info_present_flag = from.chroma_loc_info_present_flag;
  chroma_sample_loc_type_top_field = from.chroma_sample_loc_type_top_field;
  chroma_sample_loc_type_bottom_field = from.chroma_sample_loc_type_bottom_field;
}

-- row 14
abbrev pub display_window_of : PlainVuiParams → PlainVuiParams → PlainVuiParams
display_window_of from x = record x {
  def_disp_win_left_offset = from.def_disp_win_left_offset;
  def_disp_win_right_offset = from.def_disp_win_right_offset;
  def_disp_win_top_offset = from.def_disp_win_top_offset;
  def_disp_win_bottom_offset = from.def_disp_win_bottom_offset;
}

-- rows 13 and 14
abbrev pub display_of : PlainVuiParams → PlainVuiParams → PlainVuiParams
display_of from x = record (display_window_of from x) {
  neutral_chroma_indication_flag = from.neutral_chroma_indication_flag;
  field_seq_flag = from.field_seq_flag;
  frame_field_info_present_flag = from.frame_field_info_present_flag;
  default_display_window_flag = from.default_display_window_flag;
}

-- row 20
abbrev pub hrd_of : PlainVuiParams → PlainVuiParams → PlainVuiParams
hrd_of from x = record x { hrd = from.hrd }

-- rows 16 to 20
abbrev pub timing_of : PlainVuiParams → PlainVuiParams → PlainVuiParams
timing_of from x = record (hrd_of from x) {
  num_units_in_tick = from.num_units_in_tick;
  time_scale = from.time_scale;
  poc_proportional_to_timing_flag = from.poc_proportional_to_timing_flag;
  num_ticks_poc_diff_one_minus1 = from.num_ticks_poc_diff_one_minus1;
  hrd_parameters_present_flag = from.hrd_parameters_present_flag;
}

-- rows 15 to 20
abbrev pub timing_info_of : PlainVuiParams → PlainVuiParams → PlainVuiParams
timing_info_of from x = record (timing_of from x) {
  timing_info_present_flag = from.timing_info_present_flag;
}

-- rows 22 to 26
abbrev pub restrictions_of : PlainVuiParams → PlainVuiParams → PlainVuiParams
restrictions_of from x = record x {
  tiles_fixed_structure_flag = from.tiles_fixed_structure_flag;
  motion_vectors_over_pic_boundaries_flag = from.motion_vectors_over_pic_boundaries_flag;
  restricted_ref_pic_lists_flag = from.restricted_ref_pic_lists_flag;
  min_spatial_segmentation_idc = from.min_spatial_segmentation_idc;
  max_bytes_per_pic_denom = from.max_bytes_per_pic_denom;
  max_bits_per_min_cu_denom = from.max_bits_per_min_cu_denom;
  log2_max_mv_length_horizontal = from.log2_max_mv_length_horizontal;
  log2_max_mv_length_vertical = from.log2_max_mv_length_vertical;
}

-- rows 21 to 26
abbrev pub stream_restrictions_of : PlainVuiParams → PlainVuiParams → PlainVuiParams
stream_restrictions_of from x = record (restrictions_of from x) {
  bitstream_restriction_flag = from.bitstream_restriction_flag;
}
