-- A slice segment header, as the walk over pictures has it (7.4.7.1, 7.4.7.2, 7.4.8).
use Rattle.std.specs.Prelude.{ℕ, ℤ, pos, ◌+◌, ◌==◌, Bool, false, List, map, slice_index_or}
use Rattle.std.specs.Prelude.{if◌then◌else◌, Option, Some, None}
use Rattle.hevc_records.specs.ShortTermRefPicSet.{PlainShortTermRefPicSet}
use Rattle.hevc_records.specs.SliceHeader.{PlainSliceSegmentHeader}
use Rattle.hevc_walk.specs.Meanings.{ShortTermMember, ShortTermRefPicSet, LongTermMember, ListRule}
use Rattle.hevc_walk.specs.Meanings.{SliceHeader, SliceType, B, P, I}
use Rattle.hevc_walk.specs.ReferenceLists.{numbers_below}

-- member i of one half of a short-term set
abbrev pub short_term_member : List ℤ → List Bool → ℕ → ShortTermMember
short_term_member deltas used i = record {
  delta_poc = slice_index_or deltas i (pos 0);
  used_by_curr_pic = slice_index_or used i false;
}

abbrev pub short_term_members : ℕ → List ℤ → List Bool → List ShortTermMember
short_term_members count deltas used = map (short_term_member deltas used) (numbers_below count)

abbrev pub short_term_set_of : PlainShortTermRefPicSet → ShortTermRefPicSet
short_term_set_of s = record {
  negative_pics = short_term_members s.num_negative_pics s.delta_poc_s0 s.used_by_curr_pic_s0;
  positive_pics = short_term_members s.num_positive_pics s.delta_poc_s1 s.used_by_curr_pic_s1;
}

-- DeltaPocMsbCycleLt where delta_poc_msb_present_flag is set
abbrev pub told_cycle : Bool → ℕ → Option ℕ
told_cycle is_present cycle = if is_present then Some cycle else None

-- long-term member i: PocLsbLt, DeltaPocMsbCycleLt and UsedByCurrPicLt
abbrev pub long_term_member : PlainSliceSegmentHeader → ℕ → LongTermMember
long_term_member h i = record {
  poc_lsb = slice_index_or h.poc_lsb_lt i 0;
  delta_poc_msb_cycle =
      told_cycle (slice_index_or h.delta_poc_msb_present_flag i false)
      (slice_index_or h.delta_poc_msb_cycle_lt i 0);
  used_by_curr_pic = slice_index_or h.used_by_curr_pic_lt i false;
}

-- num_long_term_sps + num_long_term_pics of them
abbrev pub long_term_members : PlainSliceSegmentHeader → List LongTermMember
long_term_members h =
    map (long_term_member h) (numbers_below (h.num_long_term_sps + h.num_long_term_pics))

-- num_ref_idx_active_minus1 + 1 places, and list_entry where ref_pic_list_modification_flag is set
abbrev pub list_rule : ℕ → Bool → List ℕ → ListRule
list_rule active_minus1 is_changed entries = record {
  num_ref_idx_active = active_minus1 + 1;
  list_entry = if is_changed then Some entries else None;
}

abbrev pub slice_type_of : ℕ → SliceType
slice_type_of type = if type == 0 then B else if type == 1 then P else I

-- what a dependent slice segment takes over of a header
abbrev pub slice_header_of : PlainSliceSegmentHeader → SliceHeader
slice_header_of h = record {
  slice_type = slice_type_of h.type_;
  pic_output_flag = h.pic_output_flag;
  pic_order_cnt_lsb = h.pic_order_cnt_lsb;
  curr_rps_idx = h.curr_rps_idx;
  short_term_ref_pic_set = short_term_set_of h.short_term_ref_pic_set;
  long_term_pics = long_term_members h;
  num_pic_total_curr = h.num_pic_total_curr;
  list0 =
      list_rule h.num_ref_idx_l0_active_minus1
      h.ref_pic_list_modification.ref_pic_list_modification_flag_l0
      h.ref_pic_list_modification.list_entry_l0;
  list1 =
      list_rule h.num_ref_idx_l1_active_minus1
      h.ref_pic_list_modification.ref_pic_list_modification_flag_l1
      h.ref_pic_list_modification.list_entry_l1;
}
