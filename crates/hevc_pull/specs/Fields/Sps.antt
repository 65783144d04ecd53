-- The fields of a sequence parameter set.
use Rattle.std.specs.Prelude.{ℕ, [], ◌∷◌}
use Rattle.hevc_records.specs.Sps.{PlainSps}
use Rattle.hevc_events.specs.Flags.{flags_of}
use Rattle.hevc_pull.specs.declared.fields.sps.SpsFields.{SpsFields}
use Rattle.hevc_pull.specs.Fields.Profile.{fields_of_profile}
use Rattle.hevc_pull.specs.Fields.Vui.{fields_of_vui}

-- the first at bit 0
abbrev pub sps_flags : PlainSps → ℕ
sps_flags s =
    flags_of
    (s.temporal_id_nesting_flag ∷
    s.separate_colour_plane_flag ∷
    s.conformance_window_flag ∷
    s.sub_layer_ordering_info_present_flag ∷
    s.scaling_list_enabled_flag ∷
    s.scaling_list_data_present_flag ∷
    s.amp_enabled_flag ∷
    s.sample_adaptive_offset_enabled_flag ∷
    s.pcm_enabled_flag ∷
    s.pcm_loop_filter_disabled_flag ∷
    s.long_term_ref_pics_present_flag ∷
    s.temporal_mvp_enabled_flag ∷
    s.strong_intra_smoothing_enabled_flag ∷
    s.vui_parameters_present_flag ∷
    s.extension_present_flag ∷
    s.range_extension_flag ∷
    s.scc_extension_flag ∷ [])

-- each field has the element of its name
abbrev pub fields_of_sps : PlainSps → SpsFields
fields_of_sps s = record {
  sps_video_parameter_set_id = s.video_parameter_set_id;
  sps_seq_parameter_set_id = s.seq_parameter_set_id;
  sps_max_sub_layers_minus1 = s.max_sub_layers_minus1;
  chroma_format_idc = s.chroma_format_idc;
  profile = fields_of_profile s.profile_tier_level;
  pic_width_in_luma_samples = s.pic_width_in_luma_samples;
  pic_height_in_luma_samples = s.pic_height_in_luma_samples;
  conf_win_left_offset = s.conf_win_left_offset;
  conf_win_right_offset = s.conf_win_right_offset;
  conf_win_top_offset = s.conf_win_top_offset;
  conf_win_bottom_offset = s.conf_win_bottom_offset;
  bit_depth_luma_minus8 = s.bit_depth_luma_minus8;
  bit_depth_chroma_minus8 = s.bit_depth_chroma_minus8;
  log2_max_pic_order_cnt_lsb_minus4 = s.log2_max_pic_order_cnt_lsb_minus4;
  sps_max_dec_pic_buffering_minus1 = s.max_dec_pic_buffering_minus1;
  sps_max_num_reorder_pics = s.max_num_reorder_pics;
  sps_max_latency_increase_plus1 = s.max_latency_increase_plus1;
  log2_min_luma_coding_block_size_minus3 = s.log2_min_luma_coding_block_size_minus3;
  log2_diff_max_min_luma_coding_block_size = s.log2_diff_max_min_luma_coding_block_size;
  log2_min_luma_transform_block_size_minus2 = s.log2_min_luma_transform_block_size_minus2;
  log2_diff_max_min_luma_transform_block_size = s.log2_diff_max_min_luma_transform_block_size;
  max_transform_hierarchy_depth_inter = s.max_transform_hierarchy_depth_inter;
  max_transform_hierarchy_depth_intra = s.max_transform_hierarchy_depth_intra;
  pcm_sample_bit_depth_luma_minus1 = s.pcm_sample_bit_depth_luma_minus1;
  pcm_sample_bit_depth_chroma_minus1 = s.pcm_sample_bit_depth_chroma_minus1;
  log2_min_pcm_luma_coding_block_size_minus3 = s.log2_min_pcm_luma_coding_block_size_minus3;
  log2_diff_max_min_pcm_luma_coding_block_size = s.log2_diff_max_min_pcm_luma_coding_block_size;
  num_short_term_ref_pic_sets = s.num_short_term_ref_pic_sets;
  num_long_term_ref_pics_sps = s.num_long_term_ref_pics_sps;
  vui = fields_of_vui s.vui_parameters;
  flags = sps_flags s;
}
