use Rattle.hevc_records.specs.VuiParams.{PlainVuiParams}
use Rattle.hevc_video_set.specs.declared.vui_params.VuiParams.{VuiParams}
use Rattle.hevc_video_set.specs.HrdParams.{plain_hrd_params}

-- the values of its fields
abbrev pub plain_vui_params : VuiParams → PlainVuiParams
plain_vui_params r = record {
  aspect_ratio_info_present_flag = r.aspect_ratio_info_present_flag;
  aspect_ratio_idc = r.aspect_ratio_idc;
  sar_width = r.sar_width;
  sar_height = r.sar_height;
  overscan_info_present_flag = r.overscan_info_present_flag;
  overscan_appropriate_flag = r.overscan_appropriate_flag;
  video_signal_type_present_flag = r.video_signal_type_present_flag;
  video_format = r.video_format;
  video_full_range_flag = r.video_full_range_flag;
  colour_description_present_flag = r.colour_description_present_flag;
  colour_primaries = r.colour_primaries;
  transfer_characteristics = r.transfer_characteristics;
  matrix_coeffs = r.matrix_coeffs;
  chroma_loc_info_present_flag = r.chroma_loc_info_present_flag;
  chroma_sample_loc_type_top_field = r.chroma_sample_loc_type_top_field;
  chroma_sample_loc_type_bottom_field = r.chroma_sample_loc_type_bottom_field;
  neutral_chroma_indication_flag = r.neutral_chroma_indication_flag;
  field_seq_flag = r.field_seq_flag;
  frame_field_info_present_flag = r.frame_field_info_present_flag;
  default_display_window_flag = r.default_display_window_flag;
  def_disp_win_left_offset = r.def_disp_win_left_offset;
  def_disp_win_right_offset = r.def_disp_win_right_offset;
  def_disp_win_top_offset = r.def_disp_win_top_offset;
  def_disp_win_bottom_offset = r.def_disp_win_bottom_offset;
  timing_info_present_flag = r.timing_info_present_flag;
  num_units_in_tick = r.num_units_in_tick;
  time_scale = r.time_scale;
  poc_proportional_to_timing_flag = r.poc_proportional_to_timing_flag;
  num_ticks_poc_diff_one_minus1 = r.num_ticks_poc_diff_one_minus1;
  hrd_parameters_present_flag = r.hrd_parameters_present_flag;
  hrd = plain_hrd_params r.hrd;
  bitstream_restriction_flag = r.bitstream_restriction_flag;
  tiles_fixed_structure_flag = r.tiles_fixed_structure_flag;
  motion_vectors_over_pic_boundaries_flag = r.motion_vectors_over_pic_boundaries_flag;
  restricted_ref_pic_lists_flag = r.restricted_ref_pic_lists_flag;
  min_spatial_segmentation_idc = r.min_spatial_segmentation_idc;
  max_bytes_per_pic_denom = r.max_bytes_per_pic_denom;
  max_bits_per_min_cu_denom = r.max_bits_per_min_cu_denom;
  log2_max_mv_length_horizontal = r.log2_max_mv_length_horizontal;
  log2_max_mv_length_vertical = r.log2_max_mv_length_vertical;
}
