use Rattle.hevc_records.specs.SliceHeader.{PlainSliceSegmentHeader}
use Rattle.hevc_picture_slice.specs.declared.slice_header.SliceHeader.{SliceHeader}
use Rattle.hevc_set_parts.specs.SliceType.{slice_type_number}
use Rattle.hevc_set_parts.specs.ShortTermRefPicSet.{plain_short_term_ref_pic_set}
use Rattle.hevc_set_parts.specs.RefPicListModification.{plain_ref_pic_list_modification}
use Rattle.hevc_video_set.specs.PredWeightTable.{plain_pred_weight_table}

-- the values of its fields
abbrev pub plain_slice_header : SliceHeader → PlainSliceSegmentHeader
plain_slice_header r = record {
  first_slice_segment_in_pic_flag = r.first_slice_segment_in_pic_flag;
  no_output_of_prior_pics_flag = r.no_output_of_prior_pics_flag;
  pic_parameter_set_id = r.pic_parameter_set_id;
  dependent_slice_segment_flag = r.dependent_slice_segment_flag;
  segment_address = r.segment_address;
  type_ = slice_type_number r.type_;
  pic_output_flag = r.pic_output_flag;
  colour_plane_id = r.colour_plane_id;
  pic_order_cnt_lsb = r.pic_order_cnt_lsb;
  short_term_ref_pic_set_sps_flag = r.short_term_ref_pic_set_sps_flag;
  short_term_ref_pic_set = plain_short_term_ref_pic_set r.short_term_ref_pic_set;
  short_term_ref_pic_set_idx = r.short_term_ref_pic_set_idx;
  num_long_term_sps = r.num_long_term_sps;
  num_long_term_pics = r.num_long_term_pics;
  lt_idx_sps = r.lt_idx_sps;
  poc_lsb_lt = r.poc_lsb_lt;
  used_by_curr_pic_lt = r.used_by_curr_pic_lt;
  delta_poc_msb_present_flag = r.delta_poc_msb_present_flag;
  delta_poc_msb_cycle_lt = r.delta_poc_msb_cycle_lt;
  temporal_mvp_enabled_flag = r.temporal_mvp_enabled_flag;
  sao_luma_flag = r.sao_luma_flag;
  sao_chroma_flag = r.sao_chroma_flag;
  num_ref_idx_active_override_flag = r.num_ref_idx_active_override_flag;
  num_ref_idx_l0_active_minus1 = r.num_ref_idx_l0_active_minus1;
  num_ref_idx_l1_active_minus1 = r.num_ref_idx_l1_active_minus1;
  ref_pic_list_modification = plain_ref_pic_list_modification r.ref_pic_list_modification;
  mvd_l1_zero_flag = r.mvd_l1_zero_flag;
  cabac_init_flag = r.cabac_init_flag;
  collocated_from_l0_flag = r.collocated_from_l0_flag;
  collocated_ref_idx = r.collocated_ref_idx;
  pred_weight_table = plain_pred_weight_table r.pred_weight_table;
  five_minus_max_num_merge_cand = r.five_minus_max_num_merge_cand;
  use_integer_mv_flag = r.use_integer_mv_flag;
  qp_delta = r.qp_delta;
  cb_qp_offset = r.cb_qp_offset;
  cr_qp_offset = r.cr_qp_offset;
  slice_act_y_qp_offset = r.slice_act_y_qp_offset;
  slice_act_cb_qp_offset = r.slice_act_cb_qp_offset;
  slice_act_cr_qp_offset = r.slice_act_cr_qp_offset;
  cu_chroma_qp_offset_enabled_flag = r.cu_chroma_qp_offset_enabled_flag;
  deblocking_filter_override_flag = r.deblocking_filter_override_flag;
  deblocking_filter_disabled_flag = r.deblocking_filter_disabled_flag;
  beta_offset_div2 = r.beta_offset_div2;
  tc_offset_div2 = r.tc_offset_div2;
  loop_filter_across_slices_enabled_flag = r.loop_filter_across_slices_enabled_flag;
  num_entry_point_offsets = r.num_entry_point_offsets;
  offset_len_minus1 = r.offset_len_minus1;
  entry_point_offset_minus1 = r.entry_point_offset_minus1;
  curr_rps_idx = r.curr_rps_idx;
  num_pic_total_curr = r.num_pic_total_curr;
  header_bit_size = r.header_bit_size;
  n_emulation_prevention_bytes = r.n_emulation_prevention_bytes;
  st_rps_bits = r.st_rps_bits;
}
