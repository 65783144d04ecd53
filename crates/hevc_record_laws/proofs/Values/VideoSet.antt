-- Video sets, usability, timing and weights, as values of their fields.
use Rattle.hevc_record_laws.specs.Values.{IsItsValues}
use Rattle.hevc_video_set.specs.SublayerHrdParameters.{plain_sublayer_hrd_parameters}
use Rattle.hevc_video_set.specs.contracts.sublayer_hrd_parameters.SublayerHrdParameters as sublayer_hrd_parameters_record
use Rattle.hevc_video_set.specs.HrdParams.{plain_hrd_params}
use Rattle.hevc_video_set.specs.contracts.hrd_params.HrdParams as hrd_params_record
use Rattle.hevc_video_set.specs.VuiParams.{plain_vui_params}
use Rattle.hevc_video_set.specs.contracts.vui_params.VuiParams as vui_params_record
use Rattle.hevc_video_set.specs.Vps.{plain_vps}
use Rattle.hevc_video_set.specs.contracts.vps.Vps as vps_record
use Rattle.hevc_video_set.specs.PredWeightTable.{plain_pred_weight_table}
use Rattle.hevc_video_set.specs.contracts.pred_weight_table.PredWeightTable as pred_weight_table_record
use Rattle.hevc_record_laws.proofs.Values.Common.{◌⨾◌, same, mapped}
use Rattle.hevc_record_laws.proofs.Values.SetParts.{profile_tier_level}

pub sublayer_hrd_parameters : IsItsValues plain_sublayer_hrd_parameters
sublayer_hrd_parameters x y e = same sublayer_hrd_parameters_record.the_type x y (λ i.
    (e i).bit_rate_value_minus1
    ⨾ (e i).cpb_size_value_minus1
    ⨾ (e i).cpb_size_du_value_minus1
    ⨾ (e i).bit_rate_du_value_minus1
    ⨾ (e i).cbr_flag
    ⨾ tt)

pub hrd_params : IsItsValues plain_hrd_params
hrd_params x y e = same hrd_params_record.the_type x y (λ i.
    (e i).nal_hrd_parameters_present_flag
    ⨾ (e i).vcl_hrd_parameters_present_flag
    ⨾ (e i).sub_pic_hrd_params_present_flag
    ⨾ (e i).tick_divisor_minus2
    ⨾ (e i).du_cpb_removal_delay_increment_length_minus1
    ⨾ (e i).sub_pic_cpb_params_in_pic_timing_sei_flag
    ⨾ (e i).dpb_output_delay_du_length_minus1
    ⨾ (e i).bit_rate_scale
    ⨾ (e i).cpb_size_scale
    ⨾ (e i).cpb_size_du_scale
    ⨾ (e i).initial_cpb_removal_delay_length_minus1
    ⨾ (e i).au_cpb_removal_delay_length_minus1
    ⨾ (e i).dpb_output_delay_length_minus1
    ⨾ (e i).fixed_pic_rate_general_flag
    ⨾ (e i).fixed_pic_rate_within_cvs_flag
    ⨾ (e i).elemental_duration_in_tc_minus1
    ⨾ (e i).low_delay_hrd_flag
    ⨾ (e i).cpb_cnt_minus1
    ⨾ mapped plain_sublayer_hrd_parameters sublayer_hrd_parameters x.nal_hrd y.nal_hrd (λ j. (e j).nal_hrd) i
    ⨾ mapped plain_sublayer_hrd_parameters sublayer_hrd_parameters x.vcl_hrd y.vcl_hrd (λ j. (e j).vcl_hrd) i
    ⨾ tt)

pub vui_params : IsItsValues plain_vui_params
vui_params x y e = same vui_params_record.the_type x y (λ i.
    (e i).aspect_ratio_info_present_flag
    ⨾ (e i).aspect_ratio_idc
    ⨾ (e i).sar_width
    ⨾ (e i).sar_height
    ⨾ (e i).overscan_info_present_flag
    ⨾ (e i).overscan_appropriate_flag
    ⨾ (e i).video_signal_type_present_flag
    ⨾ (e i).video_format
    ⨾ (e i).video_full_range_flag
    ⨾ (e i).colour_description_present_flag
    ⨾ (e i).colour_primaries
    ⨾ (e i).transfer_characteristics
    ⨾ (e i).matrix_coeffs
    ⨾ (e i).chroma_loc_info_present_flag
    ⨾ (e i).chroma_sample_loc_type_top_field
    ⨾ (e i).chroma_sample_loc_type_bottom_field
    ⨾ (e i).neutral_chroma_indication_flag
    ⨾ (e i).field_seq_flag
    ⨾ (e i).frame_field_info_present_flag
    ⨾ (e i).default_display_window_flag
    ⨾ (e i).def_disp_win_left_offset
    ⨾ (e i).def_disp_win_right_offset
    ⨾ (e i).def_disp_win_top_offset
    ⨾ (e i).def_disp_win_bottom_offset
    ⨾ (e i).timing_info_present_flag
    ⨾ (e i).num_units_in_tick
    ⨾ (e i).time_scale
    ⨾ (e i).poc_proportional_to_timing_flag
    ⨾ (e i).num_ticks_poc_diff_one_minus1
    ⨾ (e i).hrd_parameters_present_flag
    ⨾ hrd_params x.hrd y.hrd (λ j. (e j).hrd) i
    ⨾ (e i).bitstream_restriction_flag
    ⨾ (e i).tiles_fixed_structure_flag
    ⨾ (e i).motion_vectors_over_pic_boundaries_flag
    ⨾ (e i).restricted_ref_pic_lists_flag
    ⨾ (e i).min_spatial_segmentation_idc
    ⨾ (e i).max_bytes_per_pic_denom
    ⨾ (e i).max_bits_per_min_cu_denom
    ⨾ (e i).log2_max_mv_length_horizontal
    ⨾ (e i).log2_max_mv_length_vertical
    ⨾ tt)

pub vps : IsItsValues plain_vps
vps x y e = same vps_record.the_type x y (λ i.
    (e i).video_parameter_set_id
    ⨾ (e i).base_layer_internal_flag
    ⨾ (e i).base_layer_available_flag
    ⨾ (e i).max_layers_minus1
    ⨾ (e i).max_sub_layers_minus1
    ⨾ (e i).temporal_id_nesting_flag
    ⨾ profile_tier_level x.profile_tier_level y.profile_tier_level (λ j. (e j).profile_tier_level) i
    ⨾ (e i).sub_layer_ordering_info_present_flag
    ⨾ (e i).max_dec_pic_buffering_minus1
    ⨾ (e i).max_num_reorder_pics
    ⨾ (e i).max_latency_increase_plus1
    ⨾ (e i).max_layer_id
    ⨾ (e i).num_layer_sets_minus1
    ⨾ (e i).timing_info_present_flag
    ⨾ (e i).num_units_in_tick
    ⨾ (e i).time_scale
    ⨾ (e i).poc_proportional_to_timing_flag
    ⨾ (e i).num_ticks_poc_diff_one_minus1
    ⨾ (e i).num_hrd_parameters
    ⨾ (e i).hrd_layer_set_idx
    ⨾ (e i).cprms_present_flag
    ⨾ mapped plain_hrd_params hrd_params x.hrd_parameters y.hrd_parameters (λ j. (e j).hrd_parameters) i
    ⨾ (e i).extension_flag
    ⨾ tt)

pub pred_weight_table : IsItsValues plain_pred_weight_table
pred_weight_table x y e = same pred_weight_table_record.the_type x y (λ i.
    (e i).luma_log2_weight_denom
    ⨾ (e i).delta_chroma_log2_weight_denom
    ⨾ (e i).chroma_log2_weight_denom
    ⨾ (e i).luma_weight_l0_flag
    ⨾ (e i).chroma_weight_l0_flag
    ⨾ (e i).delta_luma_weight_l0
    ⨾ (e i).luma_offset_l0
    ⨾ (e i).delta_chroma_weight_l0
    ⨾ (e i).delta_chroma_offset_l0
    ⨾ (e i).luma_weight_l1_flag
    ⨾ (e i).chroma_weight_l1_flag
    ⨾ (e i).delta_luma_weight_l1
    ⨾ (e i).luma_offset_l1
    ⨾ (e i).delta_chroma_weight_l1
    ⨾ (e i).delta_chroma_offset_l1
    ⨾ tt)
