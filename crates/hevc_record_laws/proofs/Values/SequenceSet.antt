-- Sequence sets, as values of their fields.
use Rattle.hevc_record_laws.specs.Values.{IsItsValues}
use Rattle.hevc_set_parts.specs.ShortTermRefPicSet.{plain_short_term_ref_pic_set}
use Rattle.hevc_sequence_set.specs.SpsRangeExtension.{plain_sps_range_extension}
use Rattle.hevc_sequence_set.specs.contracts.sps_range_extension.SpsRangeExtension as sps_range_extension_record
use Rattle.hevc_sequence_set.specs.SpsSccExtension.{plain_sps_scc_extension}
use Rattle.hevc_sequence_set.specs.contracts.sps_scc_extension.SpsSccExtension as sps_scc_extension_record
use Rattle.hevc_sequence_set.specs.Sps.{plain_sps}
use Rattle.hevc_sequence_set.specs.contracts.sps.Sps as sps_record
use Rattle.hevc_record_laws.proofs.Values.Common.{◌⨾◌, same, mapped}
use Rattle.hevc_record_laws.proofs.Values.SetParts.{profile_tier_level, scaling_lists, short_term_ref_pic_set}
use Rattle.hevc_record_laws.proofs.Values.VideoSet.{vui_params}

pub sps_range_extension : IsItsValues plain_sps_range_extension
sps_range_extension x y e = same sps_range_extension_record.the_type x y (λ i.
    (e i).transform_skip_rotation_enabled_flag
    ⨾ (e i).transform_skip_context_enabled_flag
    ⨾ (e i).implicit_rdpcm_enabled_flag
    ⨾ (e i).explicit_rdpcm_enabled_flag
    ⨾ (e i).extended_precision_processing_flag
    ⨾ (e i).intra_smoothing_disabled_flag
    ⨾ (e i).high_precision_offsets_enabled_flag
    ⨾ (e i).persistent_rice_adaptation_enabled_flag
    ⨾ (e i).cabac_bypass_alignment_enabled_flag
    ⨾ tt)

pub sps_scc_extension : IsItsValues plain_sps_scc_extension
sps_scc_extension x y e = same sps_scc_extension_record.the_type x y (λ i.
    (e i).curr_pic_ref_enabled_flag
    ⨾ (e i).palette_mode_enabled_flag
    ⨾ (e i).palette_max_size
    ⨾ (e i).delta_palette_max_predictor_size
    ⨾ (e i).palette_predictor_initializers_present_flag
    ⨾ (e i).num_palette_predictor_initializer_minus1
    ⨾ (e i).palette_predictor_initializer
    ⨾ (e i).motion_vector_resolution_control_idc
    ⨾ (e i).intra_boundary_filtering_disabled_flag
    ⨾ tt)

pub sps : IsItsValues plain_sps
sps x y e = same sps_record.the_type x y (λ i.
    (e i).video_parameter_set_id
    ⨾ (e i).max_sub_layers_minus1
    ⨾ (e i).temporal_id_nesting_flag
    ⨾ profile_tier_level x.profile_tier_level y.profile_tier_level (λ j. (e j).profile_tier_level) i
    ⨾ (e i).seq_parameter_set_id
    ⨾ (e i).chroma_format_idc
    ⨾ (e i).separate_colour_plane_flag
    ⨾ (e i).pic_width_in_luma_samples
    ⨾ (e i).pic_height_in_luma_samples
    ⨾ (e i).conformance_window_flag
    ⨾ (e i).conf_win_left_offset
    ⨾ (e i).conf_win_right_offset
    ⨾ (e i).conf_win_top_offset
    ⨾ (e i).conf_win_bottom_offset
    ⨾ (e i).bit_depth_luma_minus8
    ⨾ (e i).bit_depth_chroma_minus8
    ⨾ (e i).log2_max_pic_order_cnt_lsb_minus4
    ⨾ (e i).sub_layer_ordering_info_present_flag
    ⨾ (e i).max_dec_pic_buffering_minus1
    ⨾ (e i).max_num_reorder_pics
    ⨾ (e i).max_latency_increase_plus1
    ⨾ (e i).log2_min_luma_coding_block_size_minus3
    ⨾ (e i).log2_diff_max_min_luma_coding_block_size
    ⨾ (e i).log2_min_luma_transform_block_size_minus2
    ⨾ (e i).log2_diff_max_min_luma_transform_block_size
    ⨾ (e i).max_transform_hierarchy_depth_inter
    ⨾ (e i).max_transform_hierarchy_depth_intra
    ⨾ (e i).scaling_list_enabled_flag
    ⨾ (e i).scaling_list_data_present_flag
    ⨾ scaling_lists x.scaling_list y.scaling_list (λ j. (e j).scaling_list) i
    ⨾ (e i).amp_enabled_flag
    ⨾ (e i).sample_adaptive_offset_enabled_flag
    ⨾ (e i).pcm_enabled_flag
    ⨾ (e i).pcm_sample_bit_depth_luma_minus1
    ⨾ (e i).pcm_sample_bit_depth_chroma_minus1
    ⨾ (e i).log2_min_pcm_luma_coding_block_size_minus3
    ⨾ (e i).log2_diff_max_min_pcm_luma_coding_block_size
    ⨾ (e i).pcm_loop_filter_disabled_flag
    ⨾ (e i).num_short_term_ref_pic_sets
    ⨾ mapped plain_short_term_ref_pic_set short_term_ref_pic_set x.short_term_ref_pic_set y.short_term_ref_pic_set (λ j. (e j).short_term_ref_pic_set) i
    ⨾ (e i).long_term_ref_pics_present_flag
    ⨾ (e i).num_long_term_ref_pics_sps
    ⨾ (e i).lt_ref_pic_poc_lsb_sps
    ⨾ (e i).used_by_curr_pic_lt_sps_flag
    ⨾ (e i).temporal_mvp_enabled_flag
    ⨾ (e i).strong_intra_smoothing_enabled_flag
    ⨾ (e i).vui_parameters_present_flag
    ⨾ vui_params x.vui_parameters y.vui_parameters (λ j. (e j).vui_parameters) i
    ⨾ (e i).extension_present_flag
    ⨾ (e i).range_extension_flag
    ⨾ (e i).scc_extension_flag
    ⨾ sps_range_extension x.range_extension y.range_extension (λ j. (e j).range_extension) i
    ⨾ sps_scc_extension x.scc_extension y.scc_extension (λ j. (e j).scc_extension) i
    ⨾ (e i).chroma_array_type
    ⨾ (e i).min_cb_log2_size_y
    ⨾ (e i).ctb_log2_size_y
    ⨾ (e i).ctb_size_y
    ⨾ (e i).pic_width_in_ctbs_y
    ⨾ (e i).pic_height_in_ctbs_y
    ⨾ (e i).pic_size_in_ctbs_y
    ⨾ (e i).pic_size_in_samples_y
    ⨾ (e i).max_tb_log2_size_y
    ⨾ (e i).wp_offset_half_range_y
    ⨾ (e i).wp_offset_half_range_c
    ⨾ tt)
