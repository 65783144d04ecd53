use Rattle.std.specs.Prelude.{ℕ, Bool, false, true}
use Rattle.hevc_records.specs.HrdParams.{PlainHrdParams, default_hrd_params}

-- Video usability information (H.265 E.2.1), with any numbers
pub record PlainVuiParams : Type 0 where
  pub aspect_ratio_info_present_flag : Bool
  pub aspect_ratio_idc : ℕ
  pub sar_width : ℕ
  pub sar_height : ℕ
  pub overscan_info_present_flag : Bool
  pub overscan_appropriate_flag : Bool
  pub video_signal_type_present_flag : Bool
  pub video_format : ℕ
  pub video_full_range_flag : Bool
  pub colour_description_present_flag : Bool
  pub colour_primaries : ℕ
  pub transfer_characteristics : ℕ
  pub matrix_coeffs : ℕ
  pub chroma_loc_info_present_flag : Bool
  pub chroma_sample_loc_type_top_field : ℕ
  pub chroma_sample_loc_type_bottom_field : ℕ
  pub neutral_chroma_indication_flag : Bool
  pub field_seq_flag : Bool
  pub frame_field_info_present_flag : Bool
  pub default_display_window_flag : Bool
  pub def_disp_win_left_offset : ℕ
  pub def_disp_win_right_offset : ℕ
  pub def_disp_win_top_offset : ℕ
  pub def_disp_win_bottom_offset : ℕ
  pub timing_info_present_flag : Bool
  pub num_units_in_tick : ℕ
  pub time_scale : ℕ
  pub poc_proportional_to_timing_flag : Bool
  pub num_ticks_poc_diff_one_minus1 : ℕ
  pub hrd_parameters_present_flag : Bool
  pub hrd : PlainHrdParams
  pub bitstream_restriction_flag : Bool
  pub tiles_fixed_structure_flag : Bool
  pub motion_vectors_over_pic_boundaries_flag : Bool
  pub restricted_ref_pic_lists_flag : Bool
  pub min_spatial_segmentation_idc : ℕ
  pub max_bytes_per_pic_denom : ℕ
  pub max_bits_per_min_cu_denom : ℕ
  pub log2_max_mv_length_horizontal : ℕ
  pub log2_max_mv_length_vertical : ℕ

-- the value where nothing was read
abbrev pub default_vui_params : PlainVuiParams
default_vui_params = record {
  aspect_ratio_info_present_flag = false;
  aspect_ratio_idc = 0;
  sar_width = 0;
  sar_height = 0;
  overscan_info_present_flag = false;
  overscan_appropriate_flag = false;
  video_signal_type_present_flag = false;
  video_format = 5;
  video_full_range_flag = false;
  colour_description_present_flag = false;
  colour_primaries = 2;
  transfer_characteristics = 2;
  matrix_coeffs = 2;
  chroma_loc_info_present_flag = false;
  chroma_sample_loc_type_top_field = 0;
  chroma_sample_loc_type_bottom_field = 0;
  neutral_chroma_indication_flag = false;
  field_seq_flag = false;
  frame_field_info_present_flag = false;
  default_display_window_flag = false;
  def_disp_win_left_offset = 0;
  def_disp_win_right_offset = 0;
  def_disp_win_top_offset = 0;
  def_disp_win_bottom_offset = 0;
  timing_info_present_flag = false;
  num_units_in_tick = 0;
  time_scale = 0;
  poc_proportional_to_timing_flag = false;
  num_ticks_poc_diff_one_minus1 = 0;
  hrd_parameters_present_flag = false;
  hrd = default_hrd_params;
  bitstream_restriction_flag = false;
  tiles_fixed_structure_flag = false;
  motion_vectors_over_pic_boundaries_flag = true;
  restricted_ref_pic_lists_flag = false;
  min_spatial_segmentation_idc = 0;
  max_bytes_per_pic_denom = 2;
  max_bits_per_min_cu_denom = 1;
  log2_max_mv_length_horizontal = 15;
  log2_max_mv_length_vertical = 15;
}
