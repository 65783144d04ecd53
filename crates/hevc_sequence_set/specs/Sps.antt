use Rattle.std.specs.Prelude.{map}
use Rattle.hevc_records.specs.Sps.{PlainSps}
use Rattle.hevc_sequence_set.specs.declared.sps.Sps.{Sps}
use Rattle.hevc_set_parts.specs.ProfileTierLevel.{plain_profile_tier_level}
use Rattle.hevc_set_parts.specs.ScalingLists.{plain_scaling_lists}
use Rattle.hevc_set_parts.specs.ShortTermRefPicSet.{plain_short_term_ref_pic_set}
use Rattle.hevc_sequence_set.specs.SpsRangeExtension.{plain_sps_range_extension}
use Rattle.hevc_sequence_set.specs.SpsSccExtension.{plain_sps_scc_extension}
use Rattle.hevc_video_set.specs.VuiParams.{plain_vui_params}

-- the values of its fields
abbrev pub plain_sps : Sps → PlainSps
plain_sps r = record {
  video_parameter_set_id = r.video_parameter_set_id;
  max_sub_layers_minus1 = r.max_sub_layers_minus1;
  temporal_id_nesting_flag = r.temporal_id_nesting_flag;
  profile_tier_level = plain_profile_tier_level r.profile_tier_level;
  seq_parameter_set_id = r.seq_parameter_set_id;
  chroma_format_idc = r.chroma_format_idc;
  separate_colour_plane_flag = r.separate_colour_plane_flag;
  pic_width_in_luma_samples = r.pic_width_in_luma_samples;
  pic_height_in_luma_samples = r.pic_height_in_luma_samples;
  conformance_window_flag = r.conformance_window_flag;
  conf_win_left_offset = r.conf_win_left_offset;
  conf_win_right_offset = r.conf_win_right_offset;
  conf_win_top_offset = r.conf_win_top_offset;
  conf_win_bottom_offset = r.conf_win_bottom_offset;
  bit_depth_luma_minus8 = r.bit_depth_luma_minus8;
  bit_depth_chroma_minus8 = r.bit_depth_chroma_minus8;
  log2_max_pic_order_cnt_lsb_minus4 = r.log2_max_pic_order_cnt_lsb_minus4;
  sub_layer_ordering_info_present_flag = r.sub_layer_ordering_info_present_flag;
  max_dec_pic_buffering_minus1 = r.max_dec_pic_buffering_minus1;
  max_num_reorder_pics = r.max_num_reorder_pics;
  max_latency_increase_plus1 = r.max_latency_increase_plus1;
  log2_min_luma_coding_block_size_minus3 = r.log2_min_luma_coding_block_size_minus3;
  log2_diff_max_min_luma_coding_block_size = r.log2_diff_max_min_luma_coding_block_size;
  log2_min_luma_transform_block_size_minus2 = r.log2_min_luma_transform_block_size_minus2;
  log2_diff_max_min_luma_transform_block_size = r.log2_diff_max_min_luma_transform_block_size;
  max_transform_hierarchy_depth_inter = r.max_transform_hierarchy_depth_inter;
  max_transform_hierarchy_depth_intra = r.max_transform_hierarchy_depth_intra;
  scaling_list_enabled_flag = r.scaling_list_enabled_flag;
  scaling_list_data_present_flag = r.scaling_list_data_present_flag;
  scaling_list = plain_scaling_lists r.scaling_list;
  amp_enabled_flag = r.amp_enabled_flag;
  sample_adaptive_offset_enabled_flag = r.sample_adaptive_offset_enabled_flag;
  pcm_enabled_flag = r.pcm_enabled_flag;
  pcm_sample_bit_depth_luma_minus1 = r.pcm_sample_bit_depth_luma_minus1;
  pcm_sample_bit_depth_chroma_minus1 = r.pcm_sample_bit_depth_chroma_minus1;
  log2_min_pcm_luma_coding_block_size_minus3 = r.log2_min_pcm_luma_coding_block_size_minus3;
  log2_diff_max_min_pcm_luma_coding_block_size = r.log2_diff_max_min_pcm_luma_coding_block_size;
  pcm_loop_filter_disabled_flag = r.pcm_loop_filter_disabled_flag;
  num_short_term_ref_pic_sets = r.num_short_term_ref_pic_sets;
  short_term_ref_pic_set = map plain_short_term_ref_pic_set r.short_term_ref_pic_set;
  long_term_ref_pics_present_flag = r.long_term_ref_pics_present_flag;
  num_long_term_ref_pics_sps = r.num_long_term_ref_pics_sps;
  lt_ref_pic_poc_lsb_sps = r.lt_ref_pic_poc_lsb_sps;
  used_by_curr_pic_lt_sps_flag = r.used_by_curr_pic_lt_sps_flag;
  temporal_mvp_enabled_flag = r.temporal_mvp_enabled_flag;
  strong_intra_smoothing_enabled_flag = r.strong_intra_smoothing_enabled_flag;
  vui_parameters_present_flag = r.vui_parameters_present_flag;
  vui_parameters = plain_vui_params r.vui_parameters;
  extension_present_flag = r.extension_present_flag;
  range_extension_flag = r.range_extension_flag;
  scc_extension_flag = r.scc_extension_flag;
  range_extension = plain_sps_range_extension r.range_extension;
  scc_extension = plain_sps_scc_extension r.scc_extension;
  chroma_array_type = r.chroma_array_type;
  min_cb_log2_size_y = r.min_cb_log2_size_y;
  ctb_log2_size_y = r.ctb_log2_size_y;
  ctb_size_y = r.ctb_size_y;
  pic_width_in_ctbs_y = r.pic_width_in_ctbs_y;
  pic_height_in_ctbs_y = r.pic_height_in_ctbs_y;
  pic_size_in_ctbs_y = r.pic_size_in_ctbs_y;
  pic_size_in_samples_y = r.pic_size_in_samples_y;
  max_tb_log2_size_y = r.max_tb_log2_size_y;
  wp_offset_half_range_y = r.wp_offset_half_range_y;
  wp_offset_half_range_c = r.wp_offset_half_range_c;
}
