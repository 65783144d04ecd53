-- The elements that each part of table 14 sets: those of one record, put into another.
use Rattle.std.specs.Prelude.{◌≡◌, ℕ, ◌+◌, ◌-◌, ◌^◌, ◌<◌, nat_lt, not, Bool, false, List, length}
use Rattle.std.specs.Prelude.{slice_index, slice_index_or, Option}
use Rattle.hevc_spec.specs.Table.{Table, done, ◌>>=◌}
use Rattle.hevc_spec.specs.Rows.{row, flag_row, bits_row, when, either}
use Rattle.hevc_spec.specs.UnitTypes.{is_idr}
use Rattle.hevc_records.specs.Pps.{PlainPps}
use Rattle.hevc_records.specs.SliceHeader.{PlainSliceSegmentHeader, default_slice_header}
use Rattle.hevc_records.specs.Sps.{PlainSps}
use Rattle.hevc_tables.specs.MathFunctions.{ceil_log2}
use Rattle.hevc_tables.specs.PpsTable.{named}
use Rattle.hevc_tables.specs.ShortTermTable.{short_term_ref_pic_set}
use Rattle.hevc_tables.specs.SliceHeaderTable as table
use Rattle.hevc_tables.specs.SliceHeaderTable.{ActiveSets, lsb_bits, cycles_before, short_term_flag}
use Rattle.hevc_tables.specs.SliceHeaderTable.{with_defaults}
use Rattle.hevc_tables.specs.SliceTypes.{is_i}
use Rattle.hevc_tables.specs.SpsTable.{highest_buffering}
use Rattle.hevc_write_elements.specs.Filling.{SameBelow, WritesBits, WritesFlag, WritesIf, WritesUe}

-- rows 1 to 3
abbrev pub beginning_of : PlainSliceSegmentHeader → PlainSliceSegmentHeader
    → PlainSliceSegmentHeader
beginning_of from x = record x {
  first_slice_segment_in_pic_flag = from.first_slice_segment_in_pic_flag;
  no_output_of_prior_pics_flag = from.no_output_of_prior_pics_flag;
  pic_parameter_set_id = from.pic_parameter_set_id;
}

-- rows 4 and 5
abbrev pub later_segment_of : PlainSliceSegmentHeader → PlainSliceSegmentHeader
    → PlainSliceSegmentHeader
later_segment_of from x = record x {
  dependent_slice_segment_flag = from.dependent_slice_segment_flag;
  segment_address = from.segment_address;
}

-- rows 6 to 9
abbrev pub kind_of : PlainSliceSegmentHeader → PlainSliceSegmentHeader → PlainSliceSegmentHeader
kind_of from x = record x {
  type_ = from.type_;
  pic_output_flag = from.pic_output_flag;
  colour_plane_id = from.colour_plane_id;
}

-- rows 12 and 13
abbrev pub short_term_set_elements_of : PlainSliceSegmentHeader → PlainSliceSegmentHeader
    → PlainSliceSegmentHeader
short_term_set_elements_of from x = record x {
  short_term_ref_pic_set_idx = from.short_term_ref_pic_set_idx;
  short_term_ref_pic_set = from.short_term_ref_pic_set;
}

-- rows 12 and 13, and which set is the current one
abbrev pub short_term_sets_of : PlainSliceSegmentHeader → PlainSliceSegmentHeader
    → PlainSliceSegmentHeader
short_term_sets_of from x = record x {
  short_term_ref_pic_set_idx = from.short_term_ref_pic_set_idx;
  curr_rps_idx = from.curr_rps_idx;
  short_term_ref_pic_set = from.short_term_ref_pic_set;
}

-- rows 10 to 13
abbrev pub short_term_elements_of : PlainSliceSegmentHeader → PlainSliceSegmentHeader
    → PlainSliceSegmentHeader
short_term_elements_of from x = record (short_term_set_elements_of from x) {
  pic_order_cnt_lsb = from.pic_order_cnt_lsb;
  short_term_ref_pic_set_sps_flag = from.short_term_ref_pic_set_sps_flag;
}

-- rows 10 to 13, and which set is the current one
abbrev pub short_term_of : PlainSliceSegmentHeader → PlainSliceSegmentHeader
    → PlainSliceSegmentHeader
short_term_of from x = record (short_term_sets_of from x) {
  pic_order_cnt_lsb = from.pic_order_cnt_lsb;
  short_term_ref_pic_set_sps_flag = from.short_term_ref_pic_set_sps_flag;
}

-- rows 14 and 15
abbrev pub long_term_counts_of : PlainSliceSegmentHeader → PlainSliceSegmentHeader
    → PlainSliceSegmentHeader
long_term_counts_of from x = record x {
  num_long_term_sps = from.num_long_term_sps;
  num_long_term_pics = from.num_long_term_pics;
}

-- rows 16 to 20
abbrev pub long_term_pictures_of : PlainSliceSegmentHeader → PlainSliceSegmentHeader
    → PlainSliceSegmentHeader
long_term_pictures_of from x = record x {
  lt_idx_sps = from.lt_idx_sps;
  poc_lsb_lt = from.poc_lsb_lt;
  used_by_curr_pic_lt = from.used_by_curr_pic_lt;
  delta_poc_msb_present_flag = from.delta_poc_msb_present_flag;
  delta_poc_msb_cycle_lt = from.delta_poc_msb_cycle_lt;
}

-- rows 16 to 20, with rows 14 and 15, their number
abbrev pub long_term_pictures_with_inputs_of : PlainSliceSegmentHeader → PlainSliceSegmentHeader
    → PlainSliceSegmentHeader
long_term_pictures_with_inputs_of from x = record (long_term_pictures_of from x) {
  num_long_term_sps = from.num_long_term_sps;
  num_long_term_pics = from.num_long_term_pics;
}

-- rows 14 to 20
abbrev pub long_term_of : PlainSliceSegmentHeader → PlainSliceSegmentHeader
    → PlainSliceSegmentHeader
long_term_of from x = long_term_pictures_of from (long_term_counts_of from x)

-- rows 10 to 21
abbrev pub reference_pictures_elements_of : PlainSliceSegmentHeader → PlainSliceSegmentHeader
    → PlainSliceSegmentHeader
reference_pictures_elements_of from x = record (long_term_of from (short_term_elements_of from x)) {
  temporal_mvp_enabled_flag = from.temporal_mvp_enabled_flag;
}

-- rows 10 to 21, and which short-term set is the current one
abbrev pub reference_pictures_of : PlainSliceSegmentHeader → PlainSliceSegmentHeader
    → PlainSliceSegmentHeader
reference_pictures_of from x = record (long_term_of from (short_term_of from x)) {
  temporal_mvp_enabled_flag = from.temporal_mvp_enabled_flag;
}

-- rows 22 and 23
abbrev pub adaptive_offset_of : PlainSliceSegmentHeader → PlainSliceSegmentHeader
    → PlainSliceSegmentHeader
adaptive_offset_of from x = record x {
  sao_luma_flag = from.sao_luma_flag;
  sao_chroma_flag = from.sao_chroma_flag;
}

-- rows 25 and 26
abbrev pub own_active_counts_of : PlainSliceSegmentHeader → PlainSliceSegmentHeader
    → PlainSliceSegmentHeader
own_active_counts_of from x = record x {
  num_ref_idx_l0_active_minus1 = from.num_ref_idx_l0_active_minus1;
  num_ref_idx_l1_active_minus1 = from.num_ref_idx_l1_active_minus1;
}

-- rows 25 and 26, with row 7, the type of the slice
abbrev pub own_active_counts_with_inputs_of : PlainSliceSegmentHeader → PlainSliceSegmentHeader
    → PlainSliceSegmentHeader
own_active_counts_with_inputs_of from x = record (own_active_counts_of from x) {
  type_ = from.type_;
}

-- rows 24 to 26
abbrev pub active_counts_of : PlainSliceSegmentHeader → PlainSliceSegmentHeader
    → PlainSliceSegmentHeader
active_counts_of from x = record (own_active_counts_of from x) {
  num_ref_idx_active_override_flag = from.num_ref_idx_active_override_flag;
}

-- rows 24 to 26, with row 7, the type of the slice
abbrev pub active_counts_with_inputs_of : PlainSliceSegmentHeader → PlainSliceSegmentHeader
    → PlainSliceSegmentHeader
active_counts_with_inputs_of from x = record (active_counts_of from x) { type_ = from.type_ }

-- row 27
abbrev pub list_modification_of : PlainSliceSegmentHeader → PlainSliceSegmentHeader
    → PlainSliceSegmentHeader
list_modification_of from x = record x {
  ref_pic_list_modification = from.ref_pic_list_modification;
}

-- row 27, with row 7 and NumPicTotalCurr
abbrev pub list_modification_with_inputs_of : PlainSliceSegmentHeader → PlainSliceSegmentHeader
    → PlainSliceSegmentHeader
list_modification_with_inputs_of from x = record (list_modification_of from x) {
  type_ = from.type_;
  num_pic_total_curr = from.num_pic_total_curr;
}

-- rows 24 to 27, with NumPicTotalCurr
abbrev pub reference_lists_of : PlainSliceSegmentHeader → PlainSliceSegmentHeader
    → PlainSliceSegmentHeader
reference_lists_of from x = record (list_modification_of from (active_counts_of from x)) {
  num_pic_total_curr = from.num_pic_total_curr;
}

-- rows 24 to 27, with NumPicTotalCurr and row 7
abbrev pub reference_lists_with_inputs_of : PlainSliceSegmentHeader → PlainSliceSegmentHeader
    → PlainSliceSegmentHeader
reference_lists_with_inputs_of from x = record (reference_lists_of from x) { type_ = from.type_ }

-- rows 28 to 31
abbrev pub motion_of : PlainSliceSegmentHeader → PlainSliceSegmentHeader → PlainSliceSegmentHeader
motion_of from x = record x {
  mvd_l1_zero_flag = from.mvd_l1_zero_flag;
  cabac_init_flag = from.cabac_init_flag;
  collocated_from_l0_flag = from.collocated_from_l0_flag;
  collocated_ref_idx = from.collocated_ref_idx;
}

-- rows 28 to 31, with rows 7, 21, 25 and 26
abbrev pub motion_with_inputs_of : PlainSliceSegmentHeader → PlainSliceSegmentHeader
    → PlainSliceSegmentHeader
motion_with_inputs_of from x = record (motion_of from x) {
  type_ = from.type_;
  temporal_mvp_enabled_flag = from.temporal_mvp_enabled_flag;
  num_ref_idx_l0_active_minus1 = from.num_ref_idx_l0_active_minus1;
  num_ref_idx_l1_active_minus1 = from.num_ref_idx_l1_active_minus1;
}

-- rows 32 to 34
abbrev pub weights_of : PlainSliceSegmentHeader → PlainSliceSegmentHeader → PlainSliceSegmentHeader
weights_of from x = record x {
  pred_weight_table = from.pred_weight_table;
  five_minus_max_num_merge_cand = from.five_minus_max_num_merge_cand;
  use_integer_mv_flag = from.use_integer_mv_flag;
}

-- rows 32 to 34, with rows 7, 25 and 26
abbrev pub weights_with_inputs_of : PlainSliceSegmentHeader → PlainSliceSegmentHeader
    → PlainSliceSegmentHeader
weights_with_inputs_of from x = record (weights_of from x) {
  type_ = from.type_;
  num_ref_idx_l0_active_minus1 = from.num_ref_idx_l0_active_minus1;
  num_ref_idx_l1_active_minus1 = from.num_ref_idx_l1_active_minus1;
}

-- rows 24 to 34
abbrev pub prediction_of : PlainSliceSegmentHeader → PlainSliceSegmentHeader
    → PlainSliceSegmentHeader
prediction_of from x = weights_of from (motion_of from (reference_lists_of from x))

-- rows 24 to 34, with rows 7 and 21
abbrev pub prediction_with_inputs_of : PlainSliceSegmentHeader → PlainSliceSegmentHeader
    → PlainSliceSegmentHeader
prediction_with_inputs_of from x = record (prediction_of from x) {
  type_ = from.type_;
  temporal_mvp_enabled_flag = from.temporal_mvp_enabled_flag;
}

-- rows 37 to 40
abbrev pub chroma_offsets_of : PlainSliceSegmentHeader → PlainSliceSegmentHeader
    → PlainSliceSegmentHeader
chroma_offsets_of from x = record x {
  cb_qp_offset = from.cb_qp_offset;
  cr_qp_offset = from.cr_qp_offset;
}

-- row 41
abbrev pub colour_transform_offsets_of : PlainSliceSegmentHeader → PlainSliceSegmentHeader
    → PlainSliceSegmentHeader
colour_transform_offsets_of from x = record x {
  slice_act_y_qp_offset = from.slice_act_y_qp_offset;
  slice_act_cb_qp_offset = from.slice_act_cb_qp_offset;
  slice_act_cr_qp_offset = from.slice_act_cr_qp_offset;
}

-- rows 35 to 40
abbrev pub quantiser_of : PlainSliceSegmentHeader → PlainSliceSegmentHeader
    → PlainSliceSegmentHeader
quantiser_of from x = record (chroma_offsets_of from x) { qp_delta = from.qp_delta }

-- rows 41 and 42
abbrev pub extension_offsets_of : PlainSliceSegmentHeader → PlainSliceSegmentHeader
    → PlainSliceSegmentHeader
extension_offsets_of from x = record (colour_transform_offsets_of from x) {
  cu_chroma_qp_offset_enabled_flag = from.cu_chroma_qp_offset_enabled_flag;
}

-- rows 35 to 42
abbrev pub quantisers_of : PlainSliceSegmentHeader → PlainSliceSegmentHeader
    → PlainSliceSegmentHeader
quantisers_of from x = extension_offsets_of from (quantiser_of from x)

-- rows 45 and 46
abbrev pub filter_offsets_of : PlainSliceSegmentHeader → PlainSliceSegmentHeader
    → PlainSliceSegmentHeader
filter_offsets_of from x = record x {
  beta_offset_div2 = from.beta_offset_div2;
  tc_offset_div2 = from.tc_offset_div2;
}

-- rows 44 to 46
abbrev pub own_deblocking_of : PlainSliceSegmentHeader → PlainSliceSegmentHeader
    → PlainSliceSegmentHeader
own_deblocking_of from x = record (filter_offsets_of from x) {
  deblocking_filter_disabled_flag = from.deblocking_filter_disabled_flag;
}

-- row 47
abbrev pub across_slices_of : PlainSliceSegmentHeader → PlainSliceSegmentHeader
    → PlainSliceSegmentHeader
across_slices_of from x = record x {
  loop_filter_across_slices_enabled_flag = from.loop_filter_across_slices_enabled_flag;
}

-- row 47, with rows 22, 23 and 44
abbrev pub across_slices_with_inputs_of : PlainSliceSegmentHeader → PlainSliceSegmentHeader
    → PlainSliceSegmentHeader
across_slices_with_inputs_of from x = record (across_slices_of from x) {
  sao_luma_flag = from.sao_luma_flag;
  sao_chroma_flag = from.sao_chroma_flag;
  deblocking_filter_disabled_flag = from.deblocking_filter_disabled_flag;
}

-- rows 43 to 47
abbrev pub filters_of : PlainSliceSegmentHeader → PlainSliceSegmentHeader → PlainSliceSegmentHeader
filters_of from x = record (across_slices_of from (own_deblocking_of from x)) {
  deblocking_filter_override_flag = from.deblocking_filter_override_flag;
}

-- rows 43 to 47, with rows 22 and 23
abbrev pub filters_with_inputs_of : PlainSliceSegmentHeader → PlainSliceSegmentHeader
    → PlainSliceSegmentHeader
filters_with_inputs_of from x = record (filters_of from x) {
  sao_luma_flag = from.sao_luma_flag;
  sao_chroma_flag = from.sao_chroma_flag;
}

-- rows 6 to 47
abbrev pub independent_segment_elements_of : PlainSliceSegmentHeader → PlainSliceSegmentHeader
    → PlainSliceSegmentHeader
independent_segment_elements_of from x = filters_of from (quantisers_of from (prediction_of from
    (adaptive_offset_of from (reference_pictures_elements_of from (kind_of from x)))))

-- rows 6 to 47, and which short-term set is the current one
abbrev pub independent_segment_of : PlainSliceSegmentHeader → PlainSliceSegmentHeader
    → PlainSliceSegmentHeader
independent_segment_of from x = filters_of from (quantisers_of from (prediction_of from
    (adaptive_offset_of from (reference_pictures_of from (kind_of from x)))))

-- rows 49 and 50
abbrev pub entry_point_offsets_of : PlainSliceSegmentHeader → PlainSliceSegmentHeader
    → PlainSliceSegmentHeader
entry_point_offsets_of from x = record x {
  offset_len_minus1 = from.offset_len_minus1;
  entry_point_offset_minus1 = from.entry_point_offset_minus1;
}

-- rows 48 to 50
abbrev pub parallel_parts_of : PlainSliceSegmentHeader → PlainSliceSegmentHeader
    → PlainSliceSegmentHeader
parallel_parts_of from x = record (entry_point_offsets_of from x) {
  num_entry_point_offsets = from.num_entry_point_offsets;
}

-- rows 51 and 52
abbrev pub header_extension_of : PlainSliceSegmentHeader → PlainSliceSegmentHeader
    → PlainSliceSegmentHeader
header_extension_of from x = x

-- rows 48 to 52
abbrev pub ending_of : PlainSliceSegmentHeader → PlainSliceSegmentHeader → PlainSliceSegmentHeader
ending_of from x = parallel_parts_of from x

-- what the sets infer (7.4.7.1)
abbrev pub inferred_of : PlainSliceSegmentHeader → PlainSliceSegmentHeader → PlainSliceSegmentHeader
inferred_of from x = record x {
  deblocking_filter_disabled_flag = from.deblocking_filter_disabled_flag;
  beta_offset_div2 = from.beta_offset_div2;
  tc_offset_div2 = from.tc_offset_div2;
  loop_filter_across_slices_enabled_flag = from.loop_filter_across_slices_enabled_flag;
  curr_rps_idx = from.curr_rps_idx;
  use_integer_mv_flag = from.use_integer_mv_flag;
}

-- rows 4 to 52, and what the sets infer
abbrev pub header_of : PlainSliceSegmentHeader → PlainSliceSegmentHeader → PlainSliceSegmentHeader
header_of from x =
    ending_of from (independent_segment_of from (later_segment_of from (inferred_of from x)))

-- rows 4 to 52, with row 1
abbrev pub header_with_inputs_of : PlainSliceSegmentHeader → PlainSliceSegmentHeader
    → PlainSliceSegmentHeader
header_with_inputs_of from x =
    record (ending_of from (independent_segment_elements_of from (later_segment_of from x))) {
      first_slice_segment_in_pic_flag = from.first_slice_segment_in_pic_flag;
    }

-- ---- long-term pictures

-- row 16: which of the sequence set's pictures one is
pub record WritesCandidate (sps : PlainSps) (i : ℕ) (indices : List ℕ) (old new : List Bool)
    : Type 0 where
  pub there : i < length indices
  pub index : WritesIf (nat_lt 1 sps.num_long_term_ref_pics_sps)
      (WritesBits (ceil_log2 sps.num_long_term_ref_pics_sps) (slice_index indices i)) old new

-- rows 17 and 18: another picture
pub record WritesOther (sps : PlainSps) (i : ℕ) (lsbs : List ℕ) (used : List Bool)
    (old new : List Bool) : Type 0 where
  pub there : i < length lsbs
  pub flag_there : i < length used
  pub mid : List Bool
  pub lsb : WritesBits (lsb_bits sps) (slice_index lsbs i) old mid
  pub flag : WritesFlag (slice_index_or used i false) mid new

-- rows 19 and 20: the cycles that a picture adds to those before it
pub record WritesCycles (x : PlainSliceSegmentHeader) (i : ℕ) (old new : List Bool) : Type 0 where
  pub there : i < length x.delta_poc_msb_present_flag
  pub cycles_there : i < length x.delta_poc_msb_cycle_lt
  pub own : ℕ
  pub is_own : (cycles : ℕ) → cycles < 2 ^ 32
      → cycles + cycles_before i x ≡ slice_index x.delta_poc_msb_cycle_lt i → cycles ≡ own
  pub mid : List Bool
  pub flag : WritesFlag (slice_index_or x.delta_poc_msb_present_flag i false) old mid
  pub added : WritesIf (slice_index_or x.delta_poc_msb_present_flag i false) (WritesUe own) mid new

-- rows 16 to 20 of the first pictures are those of x, of so many, as is how many come from the
-- sequence set
pub record SameLongTerm (x : PlainSliceSegmentHeader) (n : ℕ) (z : PlainSliceSegmentHeader) : Type 0
  where
    pub counts : z.num_long_term_sps ≡ x.num_long_term_sps
    pub indices : SameBelow n z.lt_idx_sps x.lt_idx_sps
    pub lsbs : SameBelow n z.poc_lsb_lt x.poc_lsb_lt
    pub used : SameBelow n z.used_by_curr_pic_lt x.used_by_curr_pic_lt
    pub presence : SameBelow n z.delta_poc_msb_present_flag x.delta_poc_msb_present_flag
    pub cycles : SameBelow n z.delta_poc_msb_cycle_lt x.delta_poc_msb_cycle_lt

-- ---- rows with no size counted: as the table has them, but for the size of the header's own
-- short-term set, which is that of what is read

-- row 12
abbrev pub own_set_rows : PlainSps → PlainSliceSegmentHeader → Table PlainSliceSegmentHeader
own_set_rows sps h = do
  let count = sps.num_short_term_ref_pic_sets
  let h = record h {
    short_term_ref_pic_set =
        (← short_term_ref_pic_set sps.short_term_ref_pic_set count (highest_buffering sps) count);
  }
  done h

-- rows 10 to 13
abbrev pub short_term_rows : PlainSps → PlainSliceSegmentHeader → Table PlainSliceSegmentHeader
short_term_rows sps h = do
  let h = record h {
    pic_order_cnt_lsb = (← bits_row (row 14 10) (lsb_bits sps) 0 (2 ^ lsb_bits sps - 1));
  }
  let h = record h { short_term_ref_pic_set_sps_flag = (← short_term_flag sps) }
  either h.short_term_ref_pic_set_sps_flag
      (table.candidate_short_term_set sps h)
      (own_set_rows sps h)

-- rows 10 to 21
abbrev pub reference_picture_rows : PlainSps → PlainSliceSegmentHeader
    → Table PlainSliceSegmentHeader
reference_picture_rows sps h = do
  h ← short_term_rows sps h
  h ← when sps.long_term_ref_pics_present_flag h (table.long_term sps h)
  let h = record h {
    temporal_mvp_enabled_flag = (← when sps.temporal_mvp_enabled_flag false (flag_row (row 14 21)));
  }
  done h

-- rows 6 to 47
abbrev pub independent_rows : ℕ → PlainSps → PlainPps → PlainSliceSegmentHeader
    → Table PlainSliceSegmentHeader
independent_rows nal_unit_type sps pps h = do
  h ← table.kind sps pps h
  h ← when (not (is_idr nal_unit_type)) h (reference_picture_rows sps h)
  h ← table.adaptive_offset sps h
  h ← when (not (is_i h.type_)) h (table.prediction sps pps h)
  h ← table.quantisers pps h
  table.filters pps h

-- rows 4 to 52
abbrev pub header_rows : ℕ → PlainSps → PlainPps → PlainSliceSegmentHeader
    → Table PlainSliceSegmentHeader
header_rows nal_unit_type sps pps h = do
  let h = with_defaults sps pps h
  h ← when (not h.first_slice_segment_in_pic_flag) h (table.later_segment sps pps h)
  h ← when (not h.dependent_slice_segment_flag) h (independent_rows nal_unit_type sps pps h)
  table.ending sps pps h

-- rows 1 to 52
abbrev pub element_rows : ℕ → (ℕ → Option ActiveSets) → Table PlainSliceSegmentHeader
element_rows nal_unit_type kept = do
  h ← table.beginning nal_unit_type default_slice_header
  sets ← named (row 14 3) h.pic_parameter_set_id (kept h.pic_parameter_set_id)
  header_rows nal_unit_type sets.sps sets.pps h
