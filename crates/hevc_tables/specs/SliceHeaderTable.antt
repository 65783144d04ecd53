-- Slice segment headers (7.3.6.1, table 14), with the parameter sets
-- that they name. Each part fills in its elements of a header, with
-- what is derived from them (7.4.7.1); those that are absent stay.
use Rattle.std.specs.Prelude.{ℕ, ℤ, pos, neg_ℤ, int_le, ◌+ℤ◌, ◌+◌, ◌-◌, ◌*◌, ◌%◌, ◌^◌, min, nat_lt}
use Rattle.std.specs.Prelude.{Bool, true, false, not, ◌&&◌, ◌||◌, ◌==◌, if◌then◌else◌, List, []}
use Rattle.std.specs.Prelude.{◌∷◌, ◌++◌, take, slice_set, slice_index_or, Option, option_map}
use Rattle.std.specs.Prelude.{option_and_then, unwrap_or}
use Rattle.std.specs.List.{count_by}
use Rattle.hevc_spec.specs.Payload.{first_place, place_behind}
use Rattle.hevc_spec.specs.Table.{Table, done, sized, ◌>>=◌}
use Rattle.hevc_spec.specs.Rows.{row, flag_row, zero_row, bits_row, ue_row, se_row, skip_row}
use Rattle.hevc_spec.specs.Rows.{check_row, when, either, repeat}
use Rattle.hevc_spec.specs.UnitTypes.{is_idr, is_irap}
use Rattle.hevc_records.specs.Pps.{PlainPps}
use Rattle.hevc_records.specs.PredWeightTable.{default_pred_weight_table}
use Rattle.hevc_records.specs.RefPicListModification.{default_ref_pic_list_modification}
use Rattle.hevc_records.specs.ShortTermRefPicSet.{PlainShortTermRefPicSet}
use Rattle.hevc_records.specs.ShortTermRefPicSet.{default_short_term_ref_pic_set}
use Rattle.hevc_records.specs.SliceHeader.{PlainSliceSegmentHeader, default_slice_header}
use Rattle.hevc_records.specs.SliceHeader.{with_inferred}
use Rattle.hevc_records.specs.Sps.{PlainSps}
use Rattle.hevc_tables.specs.MathFunctions.{ceil_log2}
use Rattle.hevc_tables.specs.PpsTable.{named}
use Rattle.hevc_tables.specs.RefPicListModificationTable.{ref_pic_list_modification}
use Rattle.hevc_tables.specs.ShortTermTable.{short_term_ref_pic_set}
use Rattle.hevc_tables.specs.SliceTypes.{is_b, is_p, is_i}
use Rattle.hevc_tables.specs.SpsTable.{highest_buffering}
use Rattle.hevc_tables.specs.WeightedPredictionTable.{has_chroma, pred_weight_table}

-- ---- rows 1 to 5

-- The sets that a header makes active (7.4.2.4.2): the picture set that it names,
-- and the sequence set that this one names.
pub record ActiveSets : Type 0 where
  pub sps : PlainSps
  pub pps : PlainPps

-- a picture set with the sequence set that it names, if that is kept
abbrev pub with_named_sequence_set : (ℕ → Option PlainSps) → PlainPps → Option ActiveSets
with_named_sequence_set sequence_sets pps =
    option_map (λ sps. record { sps = sps; pps = pps }) (sequence_sets pps.seq_parameter_set_id)

-- the sets that the id of a picture set makes active, if they are kept
abbrev pub active_sets : (ℕ → Option PlainSps) → (ℕ → Option PlainPps) → ℕ → Option ActiveSets
active_sets sequence_sets picture_sets id =
    option_and_then (with_named_sequence_set sequence_sets) (picture_sets id)

-- rows 1 to 3, of a unit of this type
unfoldable pub beginning : ℕ → PlainSliceSegmentHeader → Table PlainSliceSegmentHeader
beginning nal_unit_type h = do
  let h = record h { first_slice_segment_in_pic_flag = (← flag_row (row 14 1)) }
  let h = record h {
    no_output_of_prior_pics_flag = (← when (is_irap nal_unit_type) false (flag_row (row 14 2)));
  }
  let h = record h { pic_parameter_set_id = (← ue_row (row 14 3) 0 63) }
  done h

-- rows 4 and 5, of a segment that isn't the first: whether it is a dependent one,
-- and at which block it begins
unfoldable pub later_segment : PlainSps → PlainPps → PlainSliceSegmentHeader
    → Table PlainSliceSegmentHeader
later_segment sps pps h = do
  let h = record h {
    dependent_slice_segment_flag =
        (← when pps.dependent_slice_segments_enabled_flag false (flag_row (row 14 4)));
  }
  let h = record h {
    segment_address =
        (← bits_row (row 14 5) (ceil_log2 sps.pic_size_in_ctbs_y) 0 (sps.pic_size_in_ctbs_y - 1));
  }
  done h

-- ---- rows 6 to 13

-- rows 6 to 9
unfoldable pub kind : PlainSps → PlainPps → PlainSliceSegmentHeader → Table PlainSliceSegmentHeader
kind sps pps h = do
  _ ← skip_row (row 14 6) pps.num_extra_slice_header_bits
  let h = record h { type_ = (← ue_row (row 14 7) 0 2) }
  let h = record h {
    pic_output_flag = (← when pps.output_flag_present_flag true (flag_row (row 14 8)));
  }
  let h = record h {
    colour_plane_id = (← when sps.separate_colour_plane_flag 0 (bits_row (row 14 9) 2 0 3));
  }
  done h

-- how many low bits of order counts are signalled
abbrev pub lsb_bits : PlainSps → ℕ
lsb_bits sps = sps.log2_max_pic_order_cnt_lsb_minus4 + 4

-- row 12: a set of the header's own, which comes after all of the sequence set,
-- and its size in payload bits
unfoldable pub own_short_term_set : PlainSps → PlainSliceSegmentHeader
    → Table PlainSliceSegmentHeader
own_short_term_set sps h =
    let count = sps.num_short_term_ref_pic_sets in
    sized (short_term_ref_pic_set sps.short_term_ref_pic_set count (highest_buffering sps) count)
    (λ set size. record h { short_term_ref_pic_set = set; st_rps_bits = size })

-- row 13: one of the sequence set's, which is the current one
unfoldable pub candidate_short_term_set : PlainSps → PlainSliceSegmentHeader
    → Table PlainSliceSegmentHeader
candidate_short_term_set sps h = do
  idx ← when (nat_lt 1 sps.num_short_term_ref_pic_sets) 0
      (bits_row (row 14 13) (ceil_log2 sps.num_short_term_ref_pic_sets) 0
      (sps.num_short_term_ref_pic_sets - 1))
  done (record h { short_term_ref_pic_set_idx = idx; curr_rps_idx = idx })

-- row 11: whether the set is one of the sequence set's, where that has any
unfoldable pub short_term_flag : PlainSps → Table Bool
short_term_flag sps =
    either (sps.num_short_term_ref_pic_sets == 0) (zero_row (row 14 11)) (flag_row (row 14 11))

-- rows 10 to 13: the order count and the short-term set
unfoldable pub short_term : PlainSps → PlainSliceSegmentHeader → Table PlainSliceSegmentHeader
short_term sps h = do
  let h = record h {
    pic_order_cnt_lsb = (← bits_row (row 14 10) (lsb_bits sps) 0 (2 ^ lsb_bits sps - 1));
  }
  let h = record h { short_term_ref_pic_set_sps_flag = (← short_term_flag sps) }
  either h.short_term_ref_pic_set_sps_flag
      (candidate_short_term_set sps h)
      (own_short_term_set sps h)

-- ---- rows 14 to 23

-- rows 14 and 15: the numbers of long-term pictures, of the sequence set's and of others,
-- at most 16 together
unfoldable pub long_term_counts : PlainSps → PlainSliceSegmentHeader → Table PlainSliceSegmentHeader
long_term_counts sps h = do
  let h = record h {
    num_long_term_sps =
        (← when (not (sps.num_long_term_ref_pics_sps == 0)) 0
        (ue_row (row 14 14) 0 (min 16 sps.num_long_term_ref_pics_sps)));
  }
  let h = record h { num_long_term_pics = (← ue_row (row 14 15) 0 (16 - h.num_long_term_sps)) }
  done h

-- row 16 of picture i, one of the sequence set's,
-- which tells the rest (7.4.7.1, PocLsbLt and UsedByCurrPicLt)
unfoldable pub candidate_long_term_picture : PlainSps → ℕ → PlainSliceSegmentHeader
    → Table PlainSliceSegmentHeader
candidate_long_term_picture sps i h = do
  idx ← when (nat_lt 1 sps.num_long_term_ref_pics_sps) 0
      (bits_row (row 14 16) (ceil_log2 sps.num_long_term_ref_pics_sps) 0
      (sps.num_long_term_ref_pics_sps - 1))
  done (record h {
    lt_idx_sps = slice_set h.lt_idx_sps i idx;
    poc_lsb_lt = slice_set h.poc_lsb_lt i (slice_index_or sps.lt_ref_pic_poc_lsb_sps idx 0);
    used_by_curr_pic_lt =
        slice_set h.used_by_curr_pic_lt i
        (slice_index_or sps.used_by_curr_pic_lt_sps_flag idx false);
  })

-- rows 17 and 18 of picture i, another one
unfoldable pub other_long_term_picture : PlainSps → ℕ → PlainSliceSegmentHeader
    → Table PlainSliceSegmentHeader
other_long_term_picture sps i h = do
  lsb ← bits_row (row 14 17) (lsb_bits sps) 0 (2 ^ lsb_bits sps - 1)
  used ← flag_row (row 14 18)
  done (record h {
    poc_lsb_lt = slice_set h.poc_lsb_lt i lsb;
    used_by_curr_pic_lt = slice_set h.used_by_curr_pic_lt i used;
  })

-- the cycles that picture i adds its own to (7-52): those of the one before it,
-- unless it is the first of its kind
abbrev pub cycles_before : ℕ → PlainSliceSegmentHeader → ℕ
cycles_before i h =
    if i == 0 || i == h.num_long_term_sps then 0
    else slice_index_or h.delta_poc_msb_cycle_lt (i - 1) 0

-- rows 19 and 20 of picture i
unfoldable pub msb_cycles : PlainSps → ℕ → PlainSliceSegmentHeader → Table PlainSliceSegmentHeader
msb_cycles sps i h = do
  present ← flag_row (row 14 19)
  cycles ← when present 0 (ue_row (row 14 20) 0 (2 ^ (32 - lsb_bits sps)))
  done (record h {
    delta_poc_msb_present_flag = slice_set h.delta_poc_msb_present_flag i present;
    delta_poc_msb_cycle_lt = slice_set h.delta_poc_msb_cycle_lt i (cycles + cycles_before i h);
  })

-- rows 16 to 20 of picture i
unfoldable pub long_term_picture : PlainSps → ℕ → PlainSliceSegmentHeader
    → Table PlainSliceSegmentHeader
long_term_picture sps i h = do
  h ← either (nat_lt i h.num_long_term_sps)
      (candidate_long_term_picture sps i h)
      (other_long_term_picture sps i h)
  msb_cycles sps i h

-- rows 16 to 20 of each picture
unfoldable pub long_term_pictures : PlainSps → PlainSliceSegmentHeader
    → Table PlainSliceSegmentHeader
long_term_pictures sps h =
    repeat (long_term_picture sps) 0 (h.num_long_term_sps + h.num_long_term_pics) h

-- rows 14 to 20
unfoldable pub long_term : PlainSps → PlainSliceSegmentHeader → Table PlainSliceSegmentHeader
long_term sps h = do
  h ← long_term_counts sps h
  long_term_pictures sps h

-- rows 10 to 21, of a picture that isn't IDR: its order count,
-- and which pictures are kept for reference
unfoldable pub reference_pictures : PlainSps → PlainSliceSegmentHeader
    → Table PlainSliceSegmentHeader
reference_pictures sps h = do
  h ← short_term sps h
  h ← when sps.long_term_ref_pics_present_flag h (long_term sps h)
  let h = record h {
    temporal_mvp_enabled_flag = (← when sps.temporal_mvp_enabled_flag false (flag_row (row 14 21)));
  }
  done h

-- rows 22 and 23: sample adaptive offset
unfoldable pub adaptive_offset : PlainSps → PlainSliceSegmentHeader → Table PlainSliceSegmentHeader
adaptive_offset sps h = do
  let h = record h {
    sao_luma_flag = (← when sps.sample_adaptive_offset_enabled_flag false (flag_row (row 14 22)));
  }
  let h = record h {
    sao_chroma_flag =
        (← when (sps.sample_adaptive_offset_enabled_flag && has_chroma sps) false
        (flag_row (row 14 23)));
  }
  done h

-- ---- rows 24 to 34, of P and B slices

-- rows 25 and 26: the active places of the lists
unfoldable pub own_active_counts : PlainSliceSegmentHeader → Table PlainSliceSegmentHeader
own_active_counts h = do
  let h = record h { num_ref_idx_l0_active_minus1 = (← ue_row (row 14 25) 0 14) }
  let h = record h {
    num_ref_idx_l1_active_minus1 = (← when (is_b h.type_) 0 (ue_row (row 14 26) 0 14));
  }
  done h

-- no rows: those of the picture set
unfoldable pub with_default_active_counts : PlainPps → PlainSliceSegmentHeader
    → PlainSliceSegmentHeader
with_default_active_counts pps h = record h {
  num_ref_idx_l0_active_minus1 = pps.num_ref_idx_l0_default_active_minus1;
  num_ref_idx_l1_active_minus1 = pps.num_ref_idx_l1_default_active_minus1;
}

-- rows 24 to 26
unfoldable pub active_counts : PlainPps → PlainSliceSegmentHeader → Table PlainSliceSegmentHeader
active_counts pps h = do
  let h = record h { num_ref_idx_active_override_flag = (← flag_row (row 14 24)) }
  either h.num_ref_idx_active_override_flag
      (own_active_counts h)
      (done (with_default_active_counts pps h))

-- how many of the first flags are set
abbrev pub count_set : ℕ → List Bool → ℕ
count_set n flags = count_by (λ b. b) (take n flags)

-- the members of a short-term set that the current picture may refer to
abbrev pub num_used_short_term : PlainShortTermRefPicSet → ℕ
num_used_short_term set =
    count_set set.num_negative_pics set.used_by_curr_pic_s0
    + count_set set.num_positive_pics set.used_by_curr_pic_s1

-- the short-term set of the current picture: one of the sequence set's, or the header's own
abbrev pub current_short_term_set : PlainSps → PlainSliceSegmentHeader → PlainShortTermRefPicSet
current_short_term_set sps h =
    if h.short_term_ref_pic_set_sps_flag
    then slice_index_or sps.short_term_ref_pic_set h.short_term_ref_pic_set_idx
    default_short_term_ref_pic_set
    else h.short_term_ref_pic_set

-- NumPicTotalCurr (7-55): the pictures that the current one may refer to, itself among them where
-- the picture set has it so
unfoldable pub num_pic_total_curr : PlainSps → PlainPps → PlainSliceSegmentHeader → ℕ
num_pic_total_curr sps pps h =
    num_used_short_term (current_short_term_set sps h)
    + count_set (h.num_long_term_sps + h.num_long_term_pics) h.used_by_curr_pic_lt
    + (if pps.scc_extension.curr_pic_ref_enabled_flag then 1 else 0)

-- the lists' order may be told: there are pictures to choose from
abbrev pub has_list_modification : PlainPps → PlainSliceSegmentHeader → Bool
has_list_modification pps h = pps.lists_modification_present_flag && nat_lt 1 h.num_pic_total_curr

-- row 27
unfoldable pub list_modification : PlainSliceSegmentHeader → Table PlainSliceSegmentHeader
list_modification h = do
  let h = record h {
    ref_pic_list_modification =
        (← ref_pic_list_modification (is_b h.type_) h.num_pic_total_curr
        h.num_ref_idx_l0_active_minus1 h.num_ref_idx_l1_active_minus1);
  }
  done h

-- the header with the number of its pictures, and lists whose order isn't told
unfoldable pub with_pictures : PlainSps → PlainPps → PlainSliceSegmentHeader
    → PlainSliceSegmentHeader
with_pictures sps pps h = record h {
  num_pic_total_curr = num_pic_total_curr sps pps h;
  ref_pic_list_modification = default_ref_pic_list_modification;
}

-- rows 24 to 27: the reference picture lists
unfoldable pub reference_lists : PlainSps → PlainPps → PlainSliceSegmentHeader
    → Table PlainSliceSegmentHeader
reference_lists sps pps h = do
  h ← active_counts pps (with_pictures sps pps h)
  when (has_list_modification pps h) h (list_modification h)

-- the last active place of the list that has the collocated picture
abbrev pub last_collocated : PlainSliceSegmentHeader → ℕ
last_collocated h =
    if h.collocated_from_l0_flag then h.num_ref_idx_l0_active_minus1
    else h.num_ref_idx_l1_active_minus1

-- rows 28 to 31: motion vectors
unfoldable pub motion : PlainPps → PlainSliceSegmentHeader → Table PlainSliceSegmentHeader
motion pps h = do
  let h = record h { mvd_l1_zero_flag = (← when (is_b h.type_) false (flag_row (row 14 28))) }
  let h = record h {
    cabac_init_flag = (← when pps.cabac_init_present_flag false (flag_row (row 14 29)));
  }
  let h = record h {
    collocated_from_l0_flag =
        (← when (h.temporal_mvp_enabled_flag && is_b h.type_) true (flag_row (row 14 30)));
  }
  let h = record h {
    collocated_ref_idx =
        (← when (h.temporal_mvp_enabled_flag && not (last_collocated h == 0)) 0
        (ue_row (row 14 31) 0 (last_collocated h)));
  }
  done h

-- predictions of a slice of this type are weighted
abbrev pub is_weighted : PlainPps → ℕ → Bool
is_weighted pps slice_type =
    (pps.weighted_pred_flag && is_p slice_type) || (pps.weighted_bipred_flag && is_b slice_type)

-- rows 32 to 34: weights and merging
unfoldable pub weights : PlainSps → PlainPps → PlainSliceSegmentHeader
    → Table PlainSliceSegmentHeader
weights sps pps h = do
  let h = record h {
    pred_weight_table =
        (← when (is_weighted pps h.type_) default_pred_weight_table
        (pred_weight_table sps (is_b h.type_) h.num_ref_idx_l0_active_minus1
        h.num_ref_idx_l1_active_minus1));
  }
  let h = record h { five_minus_max_num_merge_cand = (← ue_row (row 14 33) 0 255) }
  let h = record h {
    use_integer_mv_flag =
        (← when (sps.scc_extension.motion_vector_resolution_control_idc == 2) h.use_integer_mv_flag
        (flag_row (row 14 34)));
  }
  done h

-- rows 24 to 34
unfoldable pub prediction : PlainSps → PlainPps → PlainSliceSegmentHeader
    → Table PlainSliceSegmentHeader
prediction sps pps h = do
  h ← reference_lists sps pps h
  h ← motion pps h
  weights sps pps h

-- ---- rows 35 to 47

-- SliceQpY (7-54) is from -QpBdOffsetY to 51.
abbrev pub is_slice_qp : PlainPps → ℤ → Bool
is_slice_qp pps delta =
    int_le (neg_ℤ (pos pps.qp_bd_offset_y)) (pos 26 +ℤ pps.init_qp_minus26 +ℤ delta)
    && int_le (pos 26 +ℤ pps.init_qp_minus26 +ℤ delta) (pos 51)

-- an offset of the slice and the picture set's, together from -12 to 12
abbrev pub is_chroma_offset : ℤ → ℤ → Bool
is_chroma_offset offset of_picture_set =
    int_le (neg_ℤ (pos 12)) (offset +ℤ of_picture_set) && int_le (offset +ℤ of_picture_set) (pos 12)

-- slice_cb_qp_offset or slice_cr_qp_offset, and the check after it
unfoldable pub chroma_offset : ℕ → ℤ → Table ℤ
chroma_offset number of_picture_set = do
  offset ← se_row (row 14 number) (neg_ℤ (pos 12)) (pos 12)
  _ ← check_row (row 14 (number + 1)) (is_chroma_offset offset of_picture_set)
  done offset

-- rows 37 to 40
unfoldable pub chroma_offsets : PlainPps → PlainSliceSegmentHeader → Table PlainSliceSegmentHeader
chroma_offsets pps h = do
  let h = record h { cb_qp_offset = (← chroma_offset 37 pps.cb_qp_offset) }
  let h = record h { cr_qp_offset = (← chroma_offset 39 pps.cr_qp_offset) }
  done h

-- row 41: the offsets of the adaptive colour transform
unfoldable pub colour_transform_offsets : PlainSliceSegmentHeader → Table PlainSliceSegmentHeader
colour_transform_offsets h = do
  let h = record h { slice_act_y_qp_offset = (← se_row (row 14 41) (neg_ℤ (pos 12)) (pos 12)) }
  let h = record h { slice_act_cb_qp_offset = (← se_row (row 14 41) (neg_ℤ (pos 12)) (pos 12)) }
  let h = record h { slice_act_cr_qp_offset = (← se_row (row 14 41) (neg_ℤ (pos 12)) (pos 12)) }
  done h

-- rows 35 to 40: what the slice adds to the picture set's quantisers
unfoldable pub quantiser : PlainPps → PlainSliceSegmentHeader → Table PlainSliceSegmentHeader
quantiser pps h = do
  let h = record h { qp_delta = (← se_row (row 14 35) (neg_ℤ (pos 87)) (pos 77)) }
  _ ← check_row (row 14 36) (is_slice_qp pps h.qp_delta)
  when pps.slice_chroma_qp_offsets_present_flag h (chroma_offsets pps h)

-- rows 41 and 42: what it adds where the picture set has extensions
unfoldable pub extension_offsets : PlainPps → PlainSliceSegmentHeader
    → Table PlainSliceSegmentHeader
extension_offsets pps h = do
  h ← when pps.scc_extension.slice_act_qp_offsets_present_flag h (colour_transform_offsets h)
  let h = record h {
    cu_chroma_qp_offset_enabled_flag =
        (← when pps.range_extension.chroma_qp_offset_list_enabled_flag false
        (flag_row (row 14 42)));
  }
  done h

-- rows 35 to 42
unfoldable pub quantisers : PlainPps → PlainSliceSegmentHeader → Table PlainSliceSegmentHeader
quantisers pps h = do
  h ← quantiser pps h
  extension_offsets pps h

-- rows 45 and 46: half the offsets of the deblocking parameters
unfoldable pub filter_offsets : PlainSliceSegmentHeader → Table PlainSliceSegmentHeader
filter_offsets h = do
  let h = record h { beta_offset_div2 = (← se_row (row 14 45) (neg_ℤ (pos 6)) (pos 6)) }
  let h = record h { tc_offset_div2 = (← se_row (row 14 46) (neg_ℤ (pos 6)) (pos 6)) }
  done h

-- rows 44 to 46: the slice's own deblocking
unfoldable pub own_deblocking : PlainSliceSegmentHeader → Table PlainSliceSegmentHeader
own_deblocking h = do
  let h = record h { deblocking_filter_disabled_flag = (← flag_row (row 14 44)) }
  when (not h.deblocking_filter_disabled_flag) h (filter_offsets h)

-- the slice has filters that row 47 speaks of
abbrev pub has_filters : PlainSliceSegmentHeader → Bool
has_filters h = h.sao_luma_flag || h.sao_chroma_flag || not h.deblocking_filter_disabled_flag

-- row 47
unfoldable pub across_slices : PlainPps → PlainSliceSegmentHeader → Table PlainSliceSegmentHeader
across_slices pps h = do
  let h = record h {
    loop_filter_across_slices_enabled_flag =
        (← when (pps.loop_filter_across_slices_enabled_flag && has_filters h)
        h.loop_filter_across_slices_enabled_flag (flag_row (row 14 47)));
  }
  done h

-- rows 43 to 47: the filters, which are as the picture set says where the slice doesn't tell
unfoldable pub filters : PlainPps → PlainSliceSegmentHeader → Table PlainSliceSegmentHeader
filters pps h = do
  let h = record h {
    deblocking_filter_override_flag =
        (← when pps.deblocking_filter_override_enabled_flag false (flag_row (row 14 43)));
  }
  h ← when h.deblocking_filter_override_flag h (own_deblocking h)
  across_slices pps h

-- rows 6 to 47, of a unit of this type: what a dependent segment doesn't tell
unfoldable pub independent_segment : ℕ → PlainSps → PlainPps → PlainSliceSegmentHeader
    → Table PlainSliceSegmentHeader
independent_segment nal_unit_type sps pps h = do
  h ← kind sps pps h
  h ← when (not (is_idr nal_unit_type)) h (reference_pictures sps h)
  h ← adaptive_offset sps h
  h ← when (not (is_i h.type_)) h (prediction sps pps h)
  h ← quantisers pps h
  filters pps h

-- ---- rows 48 to 53

-- how many entry points a segment can have after its first: one for each tile, each row of blocks,
-- or each row of blocks of a tile column (7.4.7.1)
abbrev pub most_entry_points : PlainSps → PlainPps → ℕ
most_entry_points sps pps =
    (if pps.tiles_enabled_flag then pps.num_tile_columns_minus1 + 1 else 1)
    * (if pps.entropy_coding_sync_enabled_flag then sps.pic_height_in_ctbs_y
    else pps.num_tile_rows_minus1 + 1)
    - 1

-- row 50 of entry point i, of so many bits, after those before it
unfoldable pub entry_point : ℕ → ℕ → List ℕ → Table (List ℕ)
entry_point bits i offsets = do
  offset ← bits_row (row 14 50) bits 0 (2 ^ bits - 1)
  done (offsets ++ offset ∷ [])

-- row 50 of so many entry points
unfoldable pub entry_points : ℕ → ℕ → Table (List ℕ)
entry_points bits count = repeat (entry_point bits) 0 count []

-- rows 49 and 50
unfoldable pub entry_point_offsets : PlainSliceSegmentHeader → Table PlainSliceSegmentHeader
entry_point_offsets h = do
  let h = record h { offset_len_minus1 = (← ue_row (row 14 49) 0 31) }
  let h = record h {
    entry_point_offset_minus1 =
        (← entry_points (h.offset_len_minus1 + 1) h.num_entry_point_offsets);
  }
  done h

-- rows 48 to 50: where the parts begin that can be decoded side by side
unfoldable pub parallel_parts : PlainSps → PlainPps → PlainSliceSegmentHeader
    → Table PlainSliceSegmentHeader
parallel_parts sps pps h = do
  let h = record h {
    num_entry_point_offsets = (← ue_row (row 14 48) 0 (most_entry_points sps pps));
  }
  when (not (h.num_entry_point_offsets == 0)) h (entry_point_offsets h)

-- rows 51 and 52
unfoldable pub header_extension : PlainSliceSegmentHeader → Table PlainSliceSegmentHeader
header_extension h = do
  length ← ue_row (row 14 51) 0 256
  _ ← skip_row (row 14 52) (8 * length)
  done h

-- rows 48 to 52
unfoldable pub ending : PlainSps → PlainPps → PlainSliceSegmentHeader
    → Table PlainSliceSegmentHeader
ending sps pps h = do
  h ← when (pps.tiles_enabled_flag || pps.entropy_coding_sync_enabled_flag) h
      (parallel_parts sps pps h)
  when pps.slice_segment_header_extension_present_flag h (header_extension h)

-- ---- the table

-- the header with what its sets infer (7.4.7.1)
abbrev pub with_defaults : PlainSps → PlainPps → PlainSliceSegmentHeader → PlainSliceSegmentHeader
with_defaults sps pps h =
    with_inferred pps sps.num_short_term_ref_pic_sets
    sps.scc_extension.motion_vector_resolution_control_idc h

-- rows 4 to 52, of a unit of this type
unfoldable pub header_of : ℕ → PlainSps → PlainPps → PlainSliceSegmentHeader
    → Table PlainSliceSegmentHeader
header_of nal_unit_type sps pps h = do
  let h = with_defaults sps pps h
  h ← when (not h.first_slice_segment_in_pic_flag) h (later_segment sps pps h)
  h ← when (not h.dependent_slice_segment_flag) h (independent_segment nal_unit_type sps pps h)
  ending sps pps h

-- rows 1 to 52, with the sets that the ids of kept picture sets make active
unfoldable pub elements : ℕ → (ℕ → Option ActiveSets) → Table PlainSliceSegmentHeader
elements nal_unit_type kept = do
  h ← beginning nal_unit_type default_slice_header
  sets ← named (row 14 3) h.pic_parameter_set_id (kept h.pic_parameter_set_id)
  header_of nal_unit_type sets.sps sets.pps h

-- a value with how many bits its lines take
pub record Sized (A : Type 0) : Type 0 where
  pub value : A
  pub size : ℕ

abbrev pub with_size : {A : Type 0} → Table A → Table (Sized A)
with_size t = sized t (λ x size. record { value = x; size = size })

-- Row 53, after lines that begin at a whole byte: byte_alignment( ) (7.3.2.12), a bit and as many
-- as end the byte, of any value.
unfoldable pub aligned : {A : Type 0} → Table A → Table A
aligned t = do
  h ← with_size t
  _ ← skip_row (row 14 53) 1
  _ ← skip_row (row 14 53) ((8 - (h.size + 1) % 8) % 8)
  done h.value

-- How many emulation_prevention_three_bytes of a unit are before the byte with the last of its
-- first payload bits (7.3.1.1)
unfoldable pub emulation_prevention_bytes : List ℕ → ℕ → ℕ
emulation_prevention_bytes payload_bytes size =
    unwrap_or
    (option_map (λ place. place.dropped) (place_behind size (first_place payload_bytes))) 0

-- the header of so many payload bits, with its sizes in the unit, whose own header has 16
unfoldable pub with_sizes : List ℕ → PlainSliceSegmentHeader → ℕ → PlainSliceSegmentHeader
with_sizes payload_bytes h size = record h {
  header_bit_size = 16 + size;
  n_emulation_prevention_bytes = emulation_prevention_bytes payload_bytes size;
}

-- Table 14 (7.3.6.1) in a unit of this type, whose bytes after its own header are these, with the
-- sets that the ids of kept picture sets make active
unfoldable pub slice_segment_header : ℕ → List ℕ → (ℕ → Option ActiveSets)
    → Table PlainSliceSegmentHeader
slice_segment_header nal_unit_type payload_bytes kept =
    sized (aligned (elements nal_unit_type kept)) (with_sizes payload_bytes)
