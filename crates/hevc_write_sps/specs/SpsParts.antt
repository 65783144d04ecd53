-- The elements that each part of table 5 sets: those of one record, put into another.
use Rattle.std.specs.Prelude.{◌≡◌, ℕ}
use Rattle.hevc_spec.specs.Table.{Table, ◌>>=◌}
use Rattle.hevc_records.specs.Sps.{PlainSps}
use Rattle.hevc_tables.specs.SpsTable.{samples, cropping}
use Rattle.hevc_write_elements.specs.Filling.{SameBelow}

-- rows 6 to 12
abbrev pub framing_rows : PlainSps → Table PlainSps
framing_rows sps = samples sps >>= cropping

-- rows 1 to 5
abbrev pub identity_of : PlainSps → PlainSps → PlainSps
identity_of from x = record x {
  video_parameter_set_id = from.video_parameter_set_id;
  max_sub_layers_minus1 = from.max_sub_layers_minus1;
  temporal_id_nesting_flag = from.temporal_id_nesting_flag;
  profile_tier_level = from.profile_tier_level;
  seq_parameter_set_id = from.seq_parameter_set_id;
}

-- rows 11 and 12
abbrev pub window_elements_of : PlainSps → PlainSps → PlainSps
window_elements_of from x = record x {
  conf_win_left_offset = from.conf_win_left_offset;
  conf_win_right_offset = from.conf_win_right_offset;
  conf_win_top_offset = from.conf_win_top_offset;
  conf_win_bottom_offset = from.conf_win_bottom_offset;
}

-- rows 11 and 12, and what follows from them
abbrev pub window_of : PlainSps → PlainSps → PlainSps
window_of from x = record (window_elements_of from x) {
  conformance_window_flag = from.conformance_window_flag;
}

-- rows 6 to 12
abbrev pub framing_elements_of : PlainSps → PlainSps → PlainSps
framing_elements_of from x = record (window_elements_of from x) {
  conformance_window_flag = from.conformance_window_flag;
  chroma_format_idc = from.chroma_format_idc;
  separate_colour_plane_flag = from.separate_colour_plane_flag;
  pic_width_in_luma_samples = from.pic_width_in_luma_samples;
  pic_height_in_luma_samples = from.pic_height_in_luma_samples;
}

-- rows 6 to 12, and what follows from them
abbrev pub framing_of : PlainSps → PlainSps → PlainSps
framing_of from x = record (framing_elements_of from x) {
  chroma_array_type = from.chroma_array_type;
  pic_width_in_ctbs_y = from.pic_width_in_ctbs_y;
  pic_height_in_ctbs_y = from.pic_height_in_ctbs_y;
  pic_size_in_ctbs_y = from.pic_size_in_ctbs_y;
  pic_size_in_samples_y = from.pic_size_in_samples_y;
}

-- rows 13 to 15
abbrev pub depths_elements_of : PlainSps → PlainSps → PlainSps
depths_elements_of from x = record x {
  bit_depth_luma_minus8 = from.bit_depth_luma_minus8;
  bit_depth_chroma_minus8 = from.bit_depth_chroma_minus8;
  log2_max_pic_order_cnt_lsb_minus4 = from.log2_max_pic_order_cnt_lsb_minus4;
}

-- rows 13 to 15, and what follows from them
abbrev pub depths_of : PlainSps → PlainSps → PlainSps
depths_of from x = record (depths_elements_of from x) {
  wp_offset_half_range_y = from.wp_offset_half_range_y;
  wp_offset_half_range_c = from.wp_offset_half_range_c;
}

-- rows 17 to 19
abbrev pub own_orderings_of : PlainSps → PlainSps → PlainSps
own_orderings_of from x = record x {
  max_dec_pic_buffering_minus1 = from.max_dec_pic_buffering_minus1;
  max_num_reorder_pics = from.max_num_reorder_pics;
  max_latency_increase_plus1 = from.max_latency_increase_plus1;
}

-- rows 17 to 19, with row 2, how many sub-layers there are
abbrev pub own_orderings_with_inputs_of : PlainSps → PlainSps → PlainSps
own_orderings_with_inputs_of from x = record (own_orderings_of from x) {
  max_sub_layers_minus1 = from.max_sub_layers_minus1;
}

-- rows 16 to 19
abbrev pub orderings_of : PlainSps → PlainSps → PlainSps
orderings_of from x = record (own_orderings_of from x) {
  sub_layer_ordering_info_present_flag = from.sub_layer_ordering_info_present_flag;
}

-- rows 16 to 19, with row 2
abbrev pub orderings_with_inputs_of : PlainSps → PlainSps → PlainSps
orderings_with_inputs_of from x = record (orderings_of from x) {
  max_sub_layers_minus1 = from.max_sub_layers_minus1;
}

-- rows 20 to 24
abbrev pub blocks_elements_of : PlainSps → PlainSps → PlainSps
blocks_elements_of from x = record x {
  log2_min_luma_coding_block_size_minus3 = from.log2_min_luma_coding_block_size_minus3;
  log2_diff_max_min_luma_coding_block_size = from.log2_diff_max_min_luma_coding_block_size;
  log2_min_luma_transform_block_size_minus2 = from.log2_min_luma_transform_block_size_minus2;
  log2_diff_max_min_luma_transform_block_size = from.log2_diff_max_min_luma_transform_block_size;
}

-- rows 20 to 24, and what follows from them
abbrev pub blocks_of : PlainSps → PlainSps → PlainSps
blocks_of from x = record (blocks_elements_of from x) {
  min_cb_log2_size_y = from.min_cb_log2_size_y;
  ctb_log2_size_y = from.ctb_log2_size_y;
  ctb_size_y = from.ctb_size_y;
  pic_width_in_ctbs_y = from.pic_width_in_ctbs_y;
  pic_height_in_ctbs_y = from.pic_height_in_ctbs_y;
  pic_size_in_ctbs_y = from.pic_size_in_ctbs_y;
  pic_size_in_samples_y = from.pic_size_in_samples_y;
  max_tb_log2_size_y = from.max_tb_log2_size_y;
}

-- row 29
abbrev pub scaling_lists_of : PlainSps → PlainSps → PlainSps
scaling_lists_of from x = record x { scaling_list = from.scaling_list }

-- rows 25 to 29
abbrev pub scaling_of : PlainSps → PlainSps → PlainSps
scaling_of from x = record (scaling_lists_of from x) {
  max_transform_hierarchy_depth_inter = from.max_transform_hierarchy_depth_inter;
  max_transform_hierarchy_depth_intra = from.max_transform_hierarchy_depth_intra;
  scaling_list_enabled_flag = from.scaling_list_enabled_flag;
  scaling_list_data_present_flag = from.scaling_list_data_present_flag;
}

-- rows 31 to 34
abbrev pub pulse_code_modulation_of : PlainSps → PlainSps → PlainSps
pulse_code_modulation_of from x = record x {
  pcm_sample_bit_depth_luma_minus1 = from.pcm_sample_bit_depth_luma_minus1;
  pcm_sample_bit_depth_chroma_minus1 = from.pcm_sample_bit_depth_chroma_minus1;
  log2_min_pcm_luma_coding_block_size_minus3 = from.log2_min_pcm_luma_coding_block_size_minus3;
  log2_diff_max_min_pcm_luma_coding_block_size = from.log2_diff_max_min_pcm_luma_coding_block_size;
  pcm_loop_filter_disabled_flag = from.pcm_loop_filter_disabled_flag;
}

-- rows 30 to 34
abbrev pub tools_of : PlainSps → PlainSps → PlainSps
tools_of from x = record (pulse_code_modulation_of from x) {
  amp_enabled_flag = from.amp_enabled_flag;
  sample_adaptive_offset_enabled_flag = from.sample_adaptive_offset_enabled_flag;
  pcm_enabled_flag = from.pcm_enabled_flag;
}

-- rows 35 and 36
abbrev pub short_term_of : PlainSps → PlainSps → PlainSps
short_term_of from x = record x {
  num_short_term_ref_pic_sets = from.num_short_term_ref_pic_sets;
  short_term_ref_pic_set = from.short_term_ref_pic_set;
}

-- rows 39 and 40
abbrev pub long_term_pictures_of : PlainSps → PlainSps → PlainSps
long_term_pictures_of from x = record x {
  lt_ref_pic_poc_lsb_sps = from.lt_ref_pic_poc_lsb_sps;
  used_by_curr_pic_lt_sps_flag = from.used_by_curr_pic_lt_sps_flag;
}

-- rows 39 and 40, with row 38, their number, and row 15
abbrev pub long_term_pictures_with_inputs_of : PlainSps → PlainSps → PlainSps
long_term_pictures_with_inputs_of from x = record (long_term_pictures_of from x) {
  num_long_term_ref_pics_sps = from.num_long_term_ref_pics_sps;
  log2_max_pic_order_cnt_lsb_minus4 = from.log2_max_pic_order_cnt_lsb_minus4;
}

-- rows 37 to 40
abbrev pub long_term_of : PlainSps → PlainSps → PlainSps
long_term_of from x = record (long_term_pictures_of from x) {
  long_term_ref_pics_present_flag = from.long_term_ref_pics_present_flag;
  num_long_term_ref_pics_sps = from.num_long_term_ref_pics_sps;
}

-- rows 37 to 40, with row 15, how many low bits order counts have
abbrev pub long_term_with_inputs_of : PlainSps → PlainSps → PlainSps
long_term_with_inputs_of from x = record (long_term_of from x) {
  log2_max_pic_order_cnt_lsb_minus4 = from.log2_max_pic_order_cnt_lsb_minus4;
}

-- row 42
abbrev pub usability_information_of : PlainSps → PlainSps → PlainSps
usability_information_of from x = record x { vui_parameters = from.vui_parameters }

-- row 42, with row 2
abbrev pub usability_information_with_inputs_of : PlainSps → PlainSps → PlainSps
usability_information_with_inputs_of from x = record (usability_information_of from x) {
  max_sub_layers_minus1 = from.max_sub_layers_minus1;
}

-- rows 41 and 42
abbrev pub usability_of : PlainSps → PlainSps → PlainSps
usability_of from x = record (usability_information_of from x) {
  temporal_mvp_enabled_flag = from.temporal_mvp_enabled_flag;
  strong_intra_smoothing_enabled_flag = from.strong_intra_smoothing_enabled_flag;
  vui_parameters_present_flag = from.vui_parameters_present_flag;
}

-- rows 41 and 42, with row 2
abbrev pub usability_with_inputs_of : PlainSps → PlainSps → PlainSps
usability_with_inputs_of from x = record (usability_of from x) {
  max_sub_layers_minus1 = from.max_sub_layers_minus1;
}

-- rows 44 to 48
abbrev pub extension_flags_of : PlainSps → PlainSps → PlainSps
extension_flags_of from x = record x {
  range_extension_flag = from.range_extension_flag;
  scc_extension_flag = from.scc_extension_flag;
}

-- row 49
abbrev pub range_extension_elements_of : PlainSps → PlainSps → PlainSps
range_extension_elements_of from x = record x { range_extension = from.range_extension }

-- row 49, and the half ranges that follow from it
abbrev pub range_extension_of : PlainSps → PlainSps → PlainSps
range_extension_of from x = record (range_extension_elements_of from x) {
  wp_offset_half_range_y = from.wp_offset_half_range_y;
  wp_offset_half_range_c = from.wp_offset_half_range_c;
}

-- row 50
abbrev pub scc_extension_of : PlainSps → PlainSps → PlainSps
scc_extension_of from x = record x { scc_extension = from.scc_extension }

-- row 50, with rows 6, 13 and 14, the format of samples
abbrev pub scc_extension_with_inputs_of : PlainSps → PlainSps → PlainSps
scc_extension_with_inputs_of from x = record (scc_extension_of from x) {
  chroma_format_idc = from.chroma_format_idc;
  bit_depth_luma_minus8 = from.bit_depth_luma_minus8;
  bit_depth_chroma_minus8 = from.bit_depth_chroma_minus8;
}

-- rows 44 to 50, with rows 6, 13 and 14
abbrev pub extension_data_with_inputs_of : PlainSps → PlainSps → PlainSps
extension_data_with_inputs_of from x =
    scc_extension_with_inputs_of from (range_extension_elements_of from (extension_flags_of from x))

-- rows 44 to 50, and what follows from them
abbrev pub extension_data_of : PlainSps → PlainSps → PlainSps
extension_data_of from x =
    scc_extension_of from (range_extension_of from (extension_flags_of from x))

-- rows 43 to 50, with rows 6, 13 and 14
abbrev pub extensions_with_inputs_of : PlainSps → PlainSps → PlainSps
extensions_with_inputs_of from x = record (extension_data_with_inputs_of from x) {
  extension_present_flag = from.extension_present_flag;
}

-- rows 43 to 50, and what follows from them
abbrev pub extensions_of : PlainSps → PlainSps → PlainSps
extensions_of from x = record (extension_data_of from x) {
  extension_present_flag = from.extension_present_flag;
}

-- rows 1 to 24
abbrev pub format_elements_of : PlainSps → PlainSps → PlainSps
format_elements_of from x =
    blocks_elements_of from (orderings_of from (depths_elements_of from
    (framing_elements_of from (identity_of from x))))

-- rows 1 to 24, and what follows from them
abbrev pub format_of : PlainSps → PlainSps → PlainSps
format_of from x =
    blocks_of from (orderings_of from (depths_of from (framing_of from (identity_of from x))))

-- rows 25 to 50, with rows 2, 6 and 13 to 15
abbrev pub coding_with_inputs_of : PlainSps → PlainSps → PlainSps
coding_with_inputs_of from x =
    extensions_with_inputs_of from (usability_with_inputs_of from (long_term_with_inputs_of from
    (short_term_of from (tools_of from (scaling_of from x)))))

-- rows 25 to 50, and what follows from them
abbrev pub coding_of : PlainSps → PlainSps → PlainSps
coding_of from x =
    extensions_of from (usability_of from (long_term_of from (short_term_of from (tools_of from
    (scaling_of from x)))))

-- rows 17 to 19 of the first sub-layers are those of x, of so many
abbrev pub same_orderings : PlainSps → ℕ → PlainSps → Type 0
same_orderings x n z =
    SameBelow n z.max_dec_pic_buffering_minus1 x.max_dec_pic_buffering_minus1
    × SameBelow n z.max_num_reorder_pics x.max_num_reorder_pics
    × SameBelow n z.max_latency_increase_plus1 x.max_latency_increase_plus1

-- rows 39 and 40 of the first pictures are those of x, of so many, as is how many bits row 39 has
abbrev pub same_pictures : PlainSps → ℕ → PlainSps → Type 0
same_pictures x n z =
    (z.log2_max_pic_order_cnt_lsb_minus4 ≡ x.log2_max_pic_order_cnt_lsb_minus4)
    × SameBelow n z.lt_ref_pic_poc_lsb_sps x.lt_ref_pic_poc_lsb_sps
    × SameBelow n z.used_by_curr_pic_lt_sps_flag x.used_by_curr_pic_lt_sps_flag
