-- Picture sets and slice headers, as values of their fields.
use Rattle.hevc_record_laws.specs.Values.{IsItsValues}
use Rattle.hevc_picture_slice.specs.Pps.{plain_pps}
use Rattle.hevc_picture_slice.specs.contracts.pps.Pps as pps_record
use Rattle.hevc_picture_slice.specs.SliceHeader.{plain_slice_header}
use Rattle.hevc_picture_slice.specs.contracts.slice_header.SliceHeader as slice_header_record
use Rattle.hevc_record_laws.proofs.Values.Common.{◌⨾◌, same, slice_type}
use Rattle.hevc_record_laws.proofs.Values.SetParts.{scaling_lists, short_term_ref_pic_set, pps_range_extension, pps_scc_extension, ref_pic_list_modification}
use Rattle.hevc_record_laws.proofs.Values.VideoSet.{pred_weight_table}

pub pps : IsItsValues plain_pps
pps x y e = same pps_record.the_type x y (λ i.
    (e i).pic_parameter_set_id
    ⨾ (e i).seq_parameter_set_id
    ⨾ (e i).dependent_slice_segments_enabled_flag
    ⨾ (e i).output_flag_present_flag
    ⨾ (e i).num_extra_slice_header_bits
    ⨾ (e i).sign_data_hiding_enabled_flag
    ⨾ (e i).cabac_init_present_flag
    ⨾ (e i).num_ref_idx_l0_default_active_minus1
    ⨾ (e i).num_ref_idx_l1_default_active_minus1
    ⨾ (e i).init_qp_minus26
    ⨾ (e i).constrained_intra_pred_flag
    ⨾ (e i).transform_skip_enabled_flag
    ⨾ (e i).cu_qp_delta_enabled_flag
    ⨾ (e i).diff_cu_qp_delta_depth
    ⨾ (e i).cb_qp_offset
    ⨾ (e i).cr_qp_offset
    ⨾ (e i).slice_chroma_qp_offsets_present_flag
    ⨾ (e i).weighted_pred_flag
    ⨾ (e i).weighted_bipred_flag
    ⨾ (e i).transquant_bypass_enabled_flag
    ⨾ (e i).tiles_enabled_flag
    ⨾ (e i).entropy_coding_sync_enabled_flag
    ⨾ (e i).num_tile_columns_minus1
    ⨾ (e i).num_tile_rows_minus1
    ⨾ (e i).uniform_spacing_flag
    ⨾ (e i).column_width_minus1
    ⨾ (e i).row_height_minus1
    ⨾ (e i).loop_filter_across_tiles_enabled_flag
    ⨾ (e i).loop_filter_across_slices_enabled_flag
    ⨾ (e i).deblocking_filter_control_present_flag
    ⨾ (e i).deblocking_filter_override_enabled_flag
    ⨾ (e i).deblocking_filter_disabled_flag
    ⨾ (e i).beta_offset_div2
    ⨾ (e i).tc_offset_div2
    ⨾ (e i).scaling_list_data_present_flag
    ⨾ scaling_lists x.scaling_list y.scaling_list (λ j. (e j).scaling_list) i
    ⨾ (e i).lists_modification_present_flag
    ⨾ (e i).log2_parallel_merge_level_minus2
    ⨾ (e i).slice_segment_header_extension_present_flag
    ⨾ (e i).extension_present_flag
    ⨾ (e i).range_extension_flag
    ⨾ (e i).scc_extension_flag
    ⨾ pps_range_extension x.range_extension y.range_extension (λ j. (e j).range_extension) i
    ⨾ pps_scc_extension x.scc_extension y.scc_extension (λ j. (e j).scc_extension) i
    ⨾ (e i).qp_bd_offset_y
    ⨾ (e i).temporal_id
    ⨾ tt)

pub slice_header : IsItsValues plain_slice_header
slice_header x y e = same slice_header_record.the_type x y (λ i.
    (e i).first_slice_segment_in_pic_flag
    ⨾ (e i).no_output_of_prior_pics_flag
    ⨾ (e i).pic_parameter_set_id
    ⨾ (e i).dependent_slice_segment_flag
    ⨾ (e i).segment_address
    ⨾ slice_type x.type_ y.type_ (λ j. (e j).type_) i
    ⨾ (e i).pic_output_flag
    ⨾ (e i).colour_plane_id
    ⨾ (e i).pic_order_cnt_lsb
    ⨾ (e i).short_term_ref_pic_set_sps_flag
    ⨾ short_term_ref_pic_set x.short_term_ref_pic_set y.short_term_ref_pic_set (λ j. (e j).short_term_ref_pic_set) i
    ⨾ (e i).short_term_ref_pic_set_idx
    ⨾ (e i).num_long_term_sps
    ⨾ (e i).num_long_term_pics
    ⨾ (e i).lt_idx_sps
    ⨾ (e i).poc_lsb_lt
    ⨾ (e i).used_by_curr_pic_lt
    ⨾ (e i).delta_poc_msb_present_flag
    ⨾ (e i).delta_poc_msb_cycle_lt
    ⨾ (e i).temporal_mvp_enabled_flag
    ⨾ (e i).sao_luma_flag
    ⨾ (e i).sao_chroma_flag
    ⨾ (e i).num_ref_idx_active_override_flag
    ⨾ (e i).num_ref_idx_l0_active_minus1
    ⨾ (e i).num_ref_idx_l1_active_minus1
    ⨾ ref_pic_list_modification x.ref_pic_list_modification y.ref_pic_list_modification (λ j. (e j).ref_pic_list_modification) i
    ⨾ (e i).mvd_l1_zero_flag
    ⨾ (e i).cabac_init_flag
    ⨾ (e i).collocated_from_l0_flag
    ⨾ (e i).collocated_ref_idx
    ⨾ pred_weight_table x.pred_weight_table y.pred_weight_table (λ j. (e j).pred_weight_table) i
    ⨾ (e i).five_minus_max_num_merge_cand
    ⨾ (e i).use_integer_mv_flag
    ⨾ (e i).qp_delta
    ⨾ (e i).cb_qp_offset
    ⨾ (e i).cr_qp_offset
    ⨾ (e i).slice_act_y_qp_offset
    ⨾ (e i).slice_act_cb_qp_offset
    ⨾ (e i).slice_act_cr_qp_offset
    ⨾ (e i).cu_chroma_qp_offset_enabled_flag
    ⨾ (e i).deblocking_filter_override_flag
    ⨾ (e i).deblocking_filter_disabled_flag
    ⨾ (e i).beta_offset_div2
    ⨾ (e i).tc_offset_div2
    ⨾ (e i).loop_filter_across_slices_enabled_flag
    ⨾ (e i).num_entry_point_offsets
    ⨾ (e i).offset_len_minus1
    ⨾ (e i).entry_point_offset_minus1
    ⨾ (e i).curr_rps_idx
    ⨾ (e i).num_pic_total_curr
    ⨾ (e i).header_bit_size
    ⨾ (e i).n_emulation_prevention_bytes
    ⨾ (e i).st_rps_bits
    ⨾ tt)
