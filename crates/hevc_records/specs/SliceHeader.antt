use Rattle.std.specs.Prelude.{ℕ, ℤ, pos, Bool, false, true, not, ◌==◌, List, [], replicate}
use Rattle.hevc_records.specs.ShortTermRefPicSet.{PlainShortTermRefPicSet}
use Rattle.hevc_records.specs.ShortTermRefPicSet.{default_short_term_ref_pic_set}
use Rattle.hevc_records.specs.RefPicListModification.{PlainRefPicListModification}
use Rattle.hevc_records.specs.RefPicListModification.{default_ref_pic_list_modification}
use Rattle.hevc_records.specs.PredWeightTable.{PlainPredWeightTable, default_pred_weight_table}
use Rattle.hevc_records.specs.Pps.{PlainPps}

-- A slice segment header (H.265 7.3.6.1), with any numbers
pub record PlainSliceSegmentHeader : Type 0 where
  pub first_slice_segment_in_pic_flag : Bool
  pub no_output_of_prior_pics_flag : Bool
  pub pic_parameter_set_id : ℕ
  pub dependent_slice_segment_flag : Bool
  pub segment_address : ℕ
  pub type_ : ℕ
  pub pic_output_flag : Bool
  pub colour_plane_id : ℕ
  pub pic_order_cnt_lsb : ℕ
  pub short_term_ref_pic_set_sps_flag : Bool
  pub short_term_ref_pic_set : PlainShortTermRefPicSet
  pub short_term_ref_pic_set_idx : ℕ
  pub num_long_term_sps : ℕ
  pub num_long_term_pics : ℕ
  pub lt_idx_sps : List ℕ
  pub poc_lsb_lt : List ℕ
  pub used_by_curr_pic_lt : List Bool
  pub delta_poc_msb_present_flag : List Bool
  pub delta_poc_msb_cycle_lt : List ℕ
  pub temporal_mvp_enabled_flag : Bool
  pub sao_luma_flag : Bool
  pub sao_chroma_flag : Bool
  pub num_ref_idx_active_override_flag : Bool
  pub num_ref_idx_l0_active_minus1 : ℕ
  pub num_ref_idx_l1_active_minus1 : ℕ
  pub ref_pic_list_modification : PlainRefPicListModification
  pub mvd_l1_zero_flag : Bool
  pub cabac_init_flag : Bool
  pub collocated_from_l0_flag : Bool
  pub collocated_ref_idx : ℕ
  pub pred_weight_table : PlainPredWeightTable
  pub five_minus_max_num_merge_cand : ℕ
  pub use_integer_mv_flag : Bool
  pub qp_delta : ℤ
  pub cb_qp_offset : ℤ
  pub cr_qp_offset : ℤ
  pub slice_act_y_qp_offset : ℤ
  pub slice_act_cb_qp_offset : ℤ
  pub slice_act_cr_qp_offset : ℤ
  pub cu_chroma_qp_offset_enabled_flag : Bool
  pub deblocking_filter_override_flag : Bool
  pub deblocking_filter_disabled_flag : Bool
  pub beta_offset_div2 : ℤ
  pub tc_offset_div2 : ℤ
  pub loop_filter_across_slices_enabled_flag : Bool
  pub num_entry_point_offsets : ℕ
  pub offset_len_minus1 : ℕ
  pub entry_point_offset_minus1 : List ℕ
  pub curr_rps_idx : ℕ
  pub num_pic_total_curr : ℕ
  pub header_bit_size : ℕ
  pub n_emulation_prevention_bytes : ℕ
  pub st_rps_bits : ℕ

-- the value where nothing was read
abbrev pub default_slice_header : PlainSliceSegmentHeader
default_slice_header = record {
  first_slice_segment_in_pic_flag = false;
  no_output_of_prior_pics_flag = false;
  pic_parameter_set_id = 0;
  dependent_slice_segment_flag = false;
  segment_address = 0;
  type_ = 1;
  pic_output_flag = true;
  colour_plane_id = 0;
  pic_order_cnt_lsb = 0;
  short_term_ref_pic_set_sps_flag = false;
  short_term_ref_pic_set = default_short_term_ref_pic_set;
  short_term_ref_pic_set_idx = 0;
  num_long_term_sps = 0;
  num_long_term_pics = 0;
  lt_idx_sps = replicate 16 0;
  poc_lsb_lt = replicate 16 0;
  used_by_curr_pic_lt = replicate 16 false;
  delta_poc_msb_present_flag = replicate 16 false;
  delta_poc_msb_cycle_lt = replicate 16 0;
  temporal_mvp_enabled_flag = false;
  sao_luma_flag = false;
  sao_chroma_flag = false;
  num_ref_idx_active_override_flag = false;
  num_ref_idx_l0_active_minus1 = 0;
  num_ref_idx_l1_active_minus1 = 0;
  ref_pic_list_modification = default_ref_pic_list_modification;
  mvd_l1_zero_flag = false;
  cabac_init_flag = false;
  collocated_from_l0_flag = true;
  collocated_ref_idx = 0;
  pred_weight_table = default_pred_weight_table;
  five_minus_max_num_merge_cand = 0;
  use_integer_mv_flag = false;
  qp_delta = pos 0;
  cb_qp_offset = pos 0;
  cr_qp_offset = pos 0;
  slice_act_y_qp_offset = pos 0;
  slice_act_cb_qp_offset = pos 0;
  slice_act_cr_qp_offset = pos 0;
  cu_chroma_qp_offset_enabled_flag = false;
  deblocking_filter_override_flag = false;
  deblocking_filter_disabled_flag = false;
  beta_offset_div2 = pos 0;
  tc_offset_div2 = pos 0;
  loop_filter_across_slices_enabled_flag = false;
  num_entry_point_offsets = 0;
  offset_len_minus1 = 0;
  entry_point_offset_minus1 = [];
  curr_rps_idx = 0;
  num_pic_total_curr = 0;
  header_bit_size = 0;
  n_emulation_prevention_bytes = 0;
  st_rps_bits = 0;
}

-- A header with the values that the sets infer for its absent elements (7.4.7.1):
-- those on in-loop filters are the picture set's, CurrRpsIdx is the number of the
-- sequence set's short-term sets, and use_integer_mv_flag is its
-- motion_vector_resolution_control_idc, which the header itself says where that is 2.
abbrev pub with_inferred : PlainPps → ℕ → ℕ → PlainSliceSegmentHeader → PlainSliceSegmentHeader
with_inferred pps num_short_term_ref_pic_sets motion_vector_resolution_control_idc h = record h {
  deblocking_filter_disabled_flag = pps.deblocking_filter_disabled_flag;
  beta_offset_div2 = pps.beta_offset_div2;
  tc_offset_div2 = pps.tc_offset_div2;
  loop_filter_across_slices_enabled_flag = pps.loop_filter_across_slices_enabled_flag;
  curr_rps_idx = num_short_term_ref_pic_sets;
  use_integer_mv_flag = not (motion_vector_resolution_control_idc == 0);
}

-- The whole header of a dependent slice segment (7.4.7.1): what
-- is before slice_type and what tells of its own unit is its own,
-- all other elements are those of the independent segment before it.
abbrev pub completed_header : PlainSliceSegmentHeader → PlainSliceSegmentHeader
    → PlainSliceSegmentHeader
completed_header own independent = record independent {
  first_slice_segment_in_pic_flag = own.first_slice_segment_in_pic_flag;
  no_output_of_prior_pics_flag = own.no_output_of_prior_pics_flag;
  pic_parameter_set_id = own.pic_parameter_set_id;
  dependent_slice_segment_flag = own.dependent_slice_segment_flag;
  segment_address = own.segment_address;
  num_entry_point_offsets = own.num_entry_point_offsets;
  offset_len_minus1 = own.offset_len_minus1;
  entry_point_offset_minus1 = own.entry_point_offset_minus1;
  header_bit_size = own.header_bit_size;
  n_emulation_prevention_bytes = own.n_emulation_prevention_bytes;
}
