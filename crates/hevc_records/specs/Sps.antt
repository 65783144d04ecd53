use Rattle.std.specs.Prelude.{ℕ, Bool, false, List, [], replicate}
use Rattle.hevc_records.specs.ProfileTierLevel.{PlainProfileTierLevel, default_profile_tier_level}
use Rattle.hevc_records.specs.ScalingLists.{PlainScalingLists, zero_scaling_lists}
use Rattle.hevc_records.specs.ShortTermRefPicSet.{PlainShortTermRefPicSet}
use Rattle.hevc_records.specs.SpsRangeExtension.{PlainSpsRangeExtension}
use Rattle.hevc_records.specs.SpsRangeExtension.{default_sps_range_extension}
use Rattle.hevc_records.specs.SpsSccExtension.{PlainSpsSccExtension, default_sps_scc_extension}
use Rattle.hevc_records.specs.VuiParams.{PlainVuiParams, default_vui_params}

-- A sequence parameter set (H.265 7.3.2.2.1) and what is derived from it (7.4.3.2.1),
-- with any numbers
pub record PlainSps : Type 0 where
  pub video_parameter_set_id : ℕ
  pub max_sub_layers_minus1 : ℕ
  pub temporal_id_nesting_flag : Bool
  pub profile_tier_level : PlainProfileTierLevel
  pub seq_parameter_set_id : ℕ
  pub chroma_format_idc : ℕ
  pub separate_colour_plane_flag : Bool
  pub pic_width_in_luma_samples : ℕ
  pub pic_height_in_luma_samples : ℕ
  pub conformance_window_flag : Bool
  pub conf_win_left_offset : ℕ
  pub conf_win_right_offset : ℕ
  pub conf_win_top_offset : ℕ
  pub conf_win_bottom_offset : ℕ
  pub bit_depth_luma_minus8 : ℕ
  pub bit_depth_chroma_minus8 : ℕ
  pub log2_max_pic_order_cnt_lsb_minus4 : ℕ
  pub sub_layer_ordering_info_present_flag : Bool
  pub max_dec_pic_buffering_minus1 : List ℕ
  pub max_num_reorder_pics : List ℕ
  pub max_latency_increase_plus1 : List ℕ
  pub log2_min_luma_coding_block_size_minus3 : ℕ
  pub log2_diff_max_min_luma_coding_block_size : ℕ
  pub log2_min_luma_transform_block_size_minus2 : ℕ
  pub log2_diff_max_min_luma_transform_block_size : ℕ
  pub max_transform_hierarchy_depth_inter : ℕ
  pub max_transform_hierarchy_depth_intra : ℕ
  pub scaling_list_enabled_flag : Bool
  pub scaling_list_data_present_flag : Bool
  pub scaling_list : PlainScalingLists
  pub amp_enabled_flag : Bool
  pub sample_adaptive_offset_enabled_flag : Bool
  pub pcm_enabled_flag : Bool
  pub pcm_sample_bit_depth_luma_minus1 : ℕ
  pub pcm_sample_bit_depth_chroma_minus1 : ℕ
  pub log2_min_pcm_luma_coding_block_size_minus3 : ℕ
  pub log2_diff_max_min_pcm_luma_coding_block_size : ℕ
  pub pcm_loop_filter_disabled_flag : Bool
  pub num_short_term_ref_pic_sets : ℕ
  pub short_term_ref_pic_set : List PlainShortTermRefPicSet
  pub long_term_ref_pics_present_flag : Bool
  pub num_long_term_ref_pics_sps : ℕ
  pub lt_ref_pic_poc_lsb_sps : List ℕ
  pub used_by_curr_pic_lt_sps_flag : List Bool
  pub temporal_mvp_enabled_flag : Bool
  pub strong_intra_smoothing_enabled_flag : Bool
  pub vui_parameters_present_flag : Bool
  pub vui_parameters : PlainVuiParams
  pub extension_present_flag : Bool
  pub range_extension_flag : Bool
  pub scc_extension_flag : Bool
  pub range_extension : PlainSpsRangeExtension
  pub scc_extension : PlainSpsSccExtension
  pub chroma_array_type : ℕ
  pub min_cb_log2_size_y : ℕ
  pub ctb_log2_size_y : ℕ
  pub ctb_size_y : ℕ
  pub pic_width_in_ctbs_y : ℕ
  pub pic_height_in_ctbs_y : ℕ
  pub pic_size_in_ctbs_y : ℕ
  pub pic_size_in_samples_y : ℕ
  pub max_tb_log2_size_y : ℕ
  pub wp_offset_half_range_y : ℕ
  pub wp_offset_half_range_c : ℕ

-- the value where nothing was read
abbrev pub default_sps : PlainSps
default_sps = record {
  video_parameter_set_id = 0;
  max_sub_layers_minus1 = 0;
  temporal_id_nesting_flag = false;
  profile_tier_level = default_profile_tier_level;
  seq_parameter_set_id = 0;
  chroma_format_idc = 0;
  separate_colour_plane_flag = false;
  pic_width_in_luma_samples = 1;
  pic_height_in_luma_samples = 1;
  conformance_window_flag = false;
  conf_win_left_offset = 0;
  conf_win_right_offset = 0;
  conf_win_top_offset = 0;
  conf_win_bottom_offset = 0;
  bit_depth_luma_minus8 = 0;
  bit_depth_chroma_minus8 = 0;
  log2_max_pic_order_cnt_lsb_minus4 = 0;
  sub_layer_ordering_info_present_flag = false;
  max_dec_pic_buffering_minus1 = replicate 7 0;
  max_num_reorder_pics = replicate 7 0;
  max_latency_increase_plus1 = replicate 7 0;
  log2_min_luma_coding_block_size_minus3 = 0;
  log2_diff_max_min_luma_coding_block_size = 0;
  log2_min_luma_transform_block_size_minus2 = 0;
  log2_diff_max_min_luma_transform_block_size = 0;
  max_transform_hierarchy_depth_inter = 0;
  max_transform_hierarchy_depth_intra = 0;
  scaling_list_enabled_flag = false;
  scaling_list_data_present_flag = false;
  scaling_list = zero_scaling_lists;
  amp_enabled_flag = false;
  sample_adaptive_offset_enabled_flag = false;
  pcm_enabled_flag = false;
  pcm_sample_bit_depth_luma_minus1 = 0;
  pcm_sample_bit_depth_chroma_minus1 = 0;
  log2_min_pcm_luma_coding_block_size_minus3 = 0;
  log2_diff_max_min_pcm_luma_coding_block_size = 0;
  pcm_loop_filter_disabled_flag = false;
  num_short_term_ref_pic_sets = 0;
  short_term_ref_pic_set = [];
  long_term_ref_pics_present_flag = false;
  num_long_term_ref_pics_sps = 0;
  lt_ref_pic_poc_lsb_sps = replicate 32 0;
  used_by_curr_pic_lt_sps_flag = replicate 32 false;
  temporal_mvp_enabled_flag = false;
  strong_intra_smoothing_enabled_flag = false;
  vui_parameters_present_flag = false;
  vui_parameters = default_vui_params;
  extension_present_flag = false;
  range_extension_flag = false;
  scc_extension_flag = false;
  range_extension = default_sps_range_extension;
  scc_extension = default_sps_scc_extension;
  chroma_array_type = 0;
  min_cb_log2_size_y = 3;
  ctb_log2_size_y = 3;
  ctb_size_y = 8;
  pic_width_in_ctbs_y = 1;
  pic_height_in_ctbs_y = 1;
  pic_size_in_ctbs_y = 1;
  pic_size_in_samples_y = 1;
  max_tb_log2_size_y = 2;
  wp_offset_half_range_y = 128;
  wp_offset_half_range_c = 128;
}
