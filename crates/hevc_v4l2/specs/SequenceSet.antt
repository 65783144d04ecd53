-- The sequence parameter set as Linux's stateless decoders take it.
use Rattle.std.specs.Prelude.{[], ◌∷◌, slice_index, replicate}
use Rattle.hevc_records.specs.Sps.{PlainSps}
use Rattle.hevc_v4l2.specs.declared.sequence_set.V4l2CtrlHevcSps.{V4l2CtrlHevcSps}
use Rattle.hevc_events.specs.Flags.{flags_of}

-- Each field has the element of its name. Of the numbers that each sub-layer has, those of the
-- highest one are taken. The flags are in the order of V4L2_HEVC_SPS_FLAG_*.
abbrev pub control_of_sps : PlainSps → V4l2CtrlHevcSps
control_of_sps s = record {
  video_parameter_set_id = s.video_parameter_set_id;
  seq_parameter_set_id = s.seq_parameter_set_id;
  pic_width_in_luma_samples = s.pic_width_in_luma_samples;
  pic_height_in_luma_samples = s.pic_height_in_luma_samples;
  bit_depth_luma_minus8 = s.bit_depth_luma_minus8;
  bit_depth_chroma_minus8 = s.bit_depth_chroma_minus8;
  log2_max_pic_order_cnt_lsb_minus4 = s.log2_max_pic_order_cnt_lsb_minus4;
  sps_max_dec_pic_buffering_minus1 =
      slice_index s.max_dec_pic_buffering_minus1 s.max_sub_layers_minus1;
  sps_max_num_reorder_pics = slice_index s.max_num_reorder_pics s.max_sub_layers_minus1;
  sps_max_latency_increase_plus1 =
      slice_index s.max_latency_increase_plus1 s.max_sub_layers_minus1;
  log2_min_luma_coding_block_size_minus3 = s.log2_min_luma_coding_block_size_minus3;
  log2_diff_max_min_luma_coding_block_size = s.log2_diff_max_min_luma_coding_block_size;
  log2_min_luma_transform_block_size_minus2 = s.log2_min_luma_transform_block_size_minus2;
  log2_diff_max_min_luma_transform_block_size = s.log2_diff_max_min_luma_transform_block_size;
  max_transform_hierarchy_depth_inter = s.max_transform_hierarchy_depth_inter;
  max_transform_hierarchy_depth_intra = s.max_transform_hierarchy_depth_intra;
  pcm_sample_bit_depth_luma_minus1 = s.pcm_sample_bit_depth_luma_minus1;
  pcm_sample_bit_depth_chroma_minus1 = s.pcm_sample_bit_depth_chroma_minus1;
  log2_min_pcm_luma_coding_block_size_minus3 = s.log2_min_pcm_luma_coding_block_size_minus3;
  log2_diff_max_min_pcm_luma_coding_block_size = s.log2_diff_max_min_pcm_luma_coding_block_size;
  num_short_term_ref_pic_sets = s.num_short_term_ref_pic_sets;
  num_long_term_ref_pics_sps = s.num_long_term_ref_pics_sps;
  chroma_format_idc = s.chroma_format_idc;
  sps_max_sub_layers_minus1 = s.max_sub_layers_minus1;
  reserved = replicate 6 0;
  flags =
      flags_of
      (s.separate_colour_plane_flag ∷
      s.scaling_list_enabled_flag ∷
      s.amp_enabled_flag ∷
      s.sample_adaptive_offset_enabled_flag ∷
      s.pcm_enabled_flag ∷
      s.pcm_loop_filter_disabled_flag ∷
      s.long_term_ref_pics_present_flag ∷
      s.temporal_mvp_enabled_flag ∷
      s.strong_intra_smoothing_enabled_flag ∷ []);
}
