-- The fields of a slice segment header.
use Rattle.std.specs.Prelude.{ℕ, [], ◌∷◌}
use Rattle.hevc_records.specs.SliceHeader.{PlainSliceSegmentHeader}
use Rattle.hevc_events.specs.Flags.{flags_of}
use Rattle.hevc_pull.specs.declared.fields.slice.SliceFields.{SliceFields}

-- the first at bit 0
abbrev pub slice_flags : PlainSliceSegmentHeader → ℕ
slice_flags s =
    flags_of
    (s.first_slice_segment_in_pic_flag ∷
    s.no_output_of_prior_pics_flag ∷
    s.dependent_slice_segment_flag ∷
    s.pic_output_flag ∷
    s.short_term_ref_pic_set_sps_flag ∷
    s.temporal_mvp_enabled_flag ∷
    s.sao_luma_flag ∷
    s.sao_chroma_flag ∷
    s.num_ref_idx_active_override_flag ∷
    s.mvd_l1_zero_flag ∷
    s.cabac_init_flag ∷
    s.collocated_from_l0_flag ∷
    s.use_integer_mv_flag ∷
    s.cu_chroma_qp_offset_enabled_flag ∷
    s.deblocking_filter_override_flag ∷
    s.deblocking_filter_disabled_flag ∷
    s.loop_filter_across_slices_enabled_flag ∷ [])

-- each field has the element of its name
abbrev pub fields_of_slice : PlainSliceSegmentHeader → SliceFields
fields_of_slice s = record {
  slice_pic_parameter_set_id = s.pic_parameter_set_id;
  slice_type = s.type_;
  colour_plane_id = s.colour_plane_id;
  short_term_ref_pic_set_idx = s.short_term_ref_pic_set_idx;
  slice_segment_address = s.segment_address;
  slice_pic_order_cnt_lsb = s.pic_order_cnt_lsb;
  num_negative_pics = s.short_term_ref_pic_set.num_negative_pics;
  num_positive_pics = s.short_term_ref_pic_set.num_positive_pics;
  num_long_term_sps = s.num_long_term_sps;
  num_long_term_pics = s.num_long_term_pics;
  num_ref_idx_l0_active_minus1 = s.num_ref_idx_l0_active_minus1;
  num_ref_idx_l1_active_minus1 = s.num_ref_idx_l1_active_minus1;
  collocated_ref_idx = s.collocated_ref_idx;
  five_minus_max_num_merge_cand = s.five_minus_max_num_merge_cand;
  slice_qp_delta = s.qp_delta;
  slice_cb_qp_offset = s.cb_qp_offset;
  slice_cr_qp_offset = s.cr_qp_offset;
  slice_act_y_qp_offset = s.slice_act_y_qp_offset;
  slice_act_cb_qp_offset = s.slice_act_cb_qp_offset;
  slice_act_cr_qp_offset = s.slice_act_cr_qp_offset;
  slice_beta_offset_div2 = s.beta_offset_div2;
  slice_tc_offset_div2 = s.tc_offset_div2;
  offset_len_minus1 = s.offset_len_minus1;
  num_entry_point_offsets = s.num_entry_point_offsets;
  num_pic_total_curr = s.num_pic_total_curr;
  header_bit_size = s.header_bit_size;
  st_rps_bits = s.st_rps_bits;
  n_emulation_prevention_bytes = s.n_emulation_prevention_bytes;
  flags = slice_flags s;
}
