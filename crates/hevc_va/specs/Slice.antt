-- A slice segment as VA-API takes it.
use Rattle.std.specs.Prelude.{ℕ, ◌+◌, ◌*◌, ◌==◌, nat_lt, ℤ, pos, Bool, List, [], ◌∷◌, replicate}
use Rattle.std.specs.Prelude.{if◌then◌else◌, Option, Some, None}
use Rattle.std.specs.Option.{option_or}
use Rattle.hevc_records.specs.Sps.{PlainSps}
use Rattle.hevc_records.specs.Pps.{PlainPps}
use Rattle.hevc_records.specs.SliceHeader.{PlainSliceSegmentHeader}
use Rattle.hevc_picture_slice.specs.declared.slice.Slice.{Slice}
use Rattle.hevc_picture_slice.specs.SliceHeader.{plain_slice_header}
use Rattle.hevc_dpb.specs.declared.entry.DpbEntry.{DpbEntry}
use Rattle.hevc_dpb.specs.Entries.{reference_numbers}
use Rattle.hevc_refs.specs.declared.ref_pic_list.RefPicListEntry.{RefPicListEntry}
use Rattle.hevc_events.specs.Flags.{flags_of}
use Rattle.hevc_v4l2.specs.Slice.{data_byte_offset}
use Rattle.hevc_v4l2.specs.Weights.{chroma_offsets_l0, chroma_offsets_l1}
use Rattle.hevc_va.specs.declared.error.VaError.{VaError}
use Rattle.hevc_va.specs.declared.error.VaError.TheVariants.{ColourPlane, EmulationPrevention}
use Rattle.hevc_va.specs.declared.error.VaError.TheVariants.{EntryPoints, UnitSize}
use Rattle.hevc_va.specs.declared.slice.VaSliceParameterBufferHevc.{VaSliceParameterBufferHevc}
use Rattle.hevc_va.specs.declared.slice.VaSliceParameterBufferHevcRext.{VaSliceParameterBufferHevcRext}
use Rattle.hevc_va.specs.declared.slice.VaSliceParameterBufferHevcExtension.{VaSliceParameterBufferHevcExtension}
use Rattle.hevc_va.specs.Lists.{list_indices, lists_error}
use Rattle.hevc_va.specs.Offsets.{denominator_error, no_chroma_offsets, no_luma_offsets}
use Rattle.hevc_va.specs.Offsets.{weights_error}

-- the first of the numbers that the structs can't hold, of a unit of this many bytes
abbrev pub segment_error : (size : ℕ) → PlainSliceSegmentHeader → Option VaError
segment_error size h =
    if nat_lt 4294967295 size then Some UnitSize
    else if nat_lt 65535 h.n_emulation_prevention_bytes then Some EmulationPrevention
    else if nat_lt 65535 h.num_entry_point_offsets then Some EntryPoints
    else if nat_lt 3 h.colour_plane_id then Some ColourPlane
    else None

-- an I slice has no list, and a P slice no list 1 (7.4.7.1)
abbrev pub active_l0_minus1 : PlainSliceSegmentHeader → ℕ
active_l0_minus1 h = if h.type_ == 2 then 0 else h.num_ref_idx_l0_active_minus1

abbrev pub active_l1_minus1 : PlainSliceSegmentHeader → ℕ
active_l1_minus1 h = if h.type_ == 0 then h.num_ref_idx_l1_active_minus1 else 0

-- 255 where there is no collocated picture
abbrev pub collocated_index : PlainSliceSegmentHeader → ℕ
collocated_index h = if h.temporal_mvp_enabled_flag then h.collocated_ref_idx else 255

-- the bits of LongSliceFlags, of which slice_type and colour_plane_id have two each
abbrev pub long_slice_flags : PlainSliceSegmentHeader → (is_last : Bool) → ℕ
long_slice_flags h is_last =
    flags_of (is_last ∷ h.dependent_slice_segment_flag ∷ [])
    + 4 * h.type_
    + 16 * h.colour_plane_id
    + 64 *
    flags_of
    (h.sao_luma_flag ∷
    h.sao_chroma_flag ∷
    h.mvd_l1_zero_flag ∷
    h.cabac_init_flag ∷
    h.temporal_mvp_enabled_flag ∷
    h.deblocking_filter_disabled_flag ∷
    h.collocated_from_l0_flag ∷
    h.loop_filter_across_slices_enabled_flag ∷ [])

-- the bits of slice_ext_flags
abbrev pub slice_extension_flags : PlainSliceSegmentHeader → ℕ
slice_extension_flags h =
    flags_of (h.cu_chroma_qp_offset_enabled_flag ∷ h.use_integer_mv_flag ∷ [])

-- Each field has the element of its name, the header of a dependent slice segment being completed.
-- The unit is alone in its buffer, and its entry points, where they are given, are the first ones.
abbrev pub filled_slice : PlainSliceSegmentHeader → (size entry_points emulation_prevention : ℕ)
    → (indices0 indices1 : List ℕ) → (luma_l0 : List ℤ) → (chroma_l0 : List (List ℤ))
    → (luma_l1 : List ℤ) → (chroma_l1 : List (List ℤ)) → (is_last : Bool)
    → VaSliceParameterBufferHevc
filled_slice h size entry_points emulation_prevention indices0 indices1 luma_l0 chroma_l0 luma_l1 chroma_l1 is_last =
    let t = h.pred_weight_table in
    record {
      slice_data_size = size;
      slice_data_offset = 0;
      slice_data_flag = 0;
      slice_data_byte_offset = data_byte_offset h;
      slice_segment_address = h.segment_address;
      ref_pic_list = indices0 ∷ indices1 ∷ [];
      long_slice_flags = long_slice_flags h is_last;
      collocated_ref_idx = collocated_index h;
      num_ref_idx_l0_active_minus1 = active_l0_minus1 h;
      num_ref_idx_l1_active_minus1 = active_l1_minus1 h;
      slice_qp_delta = h.qp_delta;
      slice_cb_qp_offset = h.cb_qp_offset;
      slice_cr_qp_offset = h.cr_qp_offset;
      slice_beta_offset_div2 = h.beta_offset_div2;
      slice_tc_offset_div2 = h.tc_offset_div2;
      luma_log2_weight_denom = t.luma_log2_weight_denom;
      delta_chroma_log2_weight_denom = t.delta_chroma_log2_weight_denom;
      delta_luma_weight_l0 = t.delta_luma_weight_l0;
      luma_offset_l0 = luma_l0;
      delta_chroma_weight_l0 = t.delta_chroma_weight_l0;
      chroma_offset_l0 = chroma_l0;
      delta_luma_weight_l1 = t.delta_luma_weight_l1;
      luma_offset_l1 = luma_l1;
      delta_chroma_weight_l1 = t.delta_chroma_weight_l1;
      chroma_offset_l1 = chroma_l1;
      five_minus_max_num_merge_cand = h.five_minus_max_num_merge_cand;
      num_entry_point_offsets = entry_points;
      entry_offset_to_subset_array = 0;
      slice_data_num_emu_prevn_bytes = emulation_prevention;
      va_reserved = replicate 2 0;
    }

-- Each field has the element of its name. The offsets of chroma are these.
abbrev pub filled_extension : PlainSliceSegmentHeader → (chroma_l0 chroma_l1 : List (List ℤ))
    → VaSliceParameterBufferHevcRext
filled_extension h chroma_l0 chroma_l1 = record {
  luma_offset_l0 = h.pred_weight_table.luma_offset_l0;
  chroma_offset_l0 = chroma_l0;
  luma_offset_l1 = h.pred_weight_table.luma_offset_l1;
  chroma_offset_l1 = chroma_l1;
  slice_ext_flags = slice_extension_flags h;
  slice_act_y_qp_offset = h.slice_act_y_qp_offset;
  slice_act_cb_qp_offset = h.slice_act_cb_qp_offset;
  slice_act_cr_qp_offset = h.slice_act_cr_qp_offset;
}

-- the same with the numbers of its unit and its header, the indices of its lists, and these offsets
abbrev pub slice_with_offsets : Slice → PlainPps → (stored : List (DpbEntry ℕ))
    → (places0 places1 : List (Option RefPicListEntry)) → (luma_l0 : List ℤ)
    → (chroma_l0 : List (List ℤ)) → (luma_l1 : List ℤ) → (chroma_l1 : List (List ℤ))
    → (is_last : Bool) → VaSliceParameterBufferHevc
slice_with_offsets slice p stored places0 places1 luma_l0 chroma_l0 luma_l1 chroma_l1 is_last =
    let h = plain_slice_header slice.header in
    filled_slice h slice.nalu.size h.num_entry_point_offsets h.n_emulation_prevention_bytes
    (list_indices p (reference_numbers stored) places0)
    (list_indices p (reference_numbers stored) places1)
    luma_l0 chroma_l0 luma_l1 chroma_l1 is_last

-- the offsets of luma are elements, those of chroma ChromaOffsetL0 and ChromaOffsetL1 (7-56)
abbrev pub buffer_of_slice : Slice → PlainSps → PlainPps → (stored : List (DpbEntry ℕ))
    → (places0 places1 : List (Option RefPicListEntry)) → (is_last : Bool)
    → VaSliceParameterBufferHevc
buffer_of_slice slice s p stored places0 places1 is_last =
    let t = (plain_slice_header slice.header).pred_weight_table in
    let half_range = pos s.wp_offset_half_range_c in
    slice_with_offsets slice p stored places0 places1
    t.luma_offset_l0 (chroma_offsets_l0 half_range t)
    t.luma_offset_l1 (chroma_offsets_l1 half_range t) is_last

-- the first thing that the struct can't hold
abbrev pub slice_extension_error : Slice → PlainPps → (stored : List (DpbEntry ℕ))
    → (places0 places1 : List (Option RefPicListEntry)) → Option VaError
slice_extension_error slice p stored places0 places1 =
    let h = plain_slice_header slice.header in
    option_or (segment_error slice.nalu.size h)
    (option_or (lists_error p stored places0 places1) (denominator_error h.pred_weight_table))

-- the same where offsets take 8 bits
abbrev pub slice_error : Slice → PlainSps → PlainPps → (stored : List (DpbEntry ℕ))
    → (places0 places1 : List (Option RefPicListEntry)) → Option VaError
slice_error slice s p stored places0 places1 =
    let h = plain_slice_header slice.header in
    option_or (segment_error slice.nalu.size h)
    (option_or (lists_error p stored places0 places1)
    (weights_error (pos s.wp_offset_half_range_c) h.pred_weight_table))

-- the whole struct, in which the offsets are told by its second part alone
abbrev pub buffer_of_slice_extension : Slice → PlainSps → PlainPps → (stored : List (DpbEntry ℕ))
    → (places0 places1 : List (Option RefPicListEntry)) → (is_last : Bool)
    → VaSliceParameterBufferHevcExtension
buffer_of_slice_extension slice s p stored places0 places1 is_last =
    let h = plain_slice_header slice.header in
    let half_range = pos s.wp_offset_half_range_c in
    record {
      base =
          slice_with_offsets slice p stored places0 places1
          no_luma_offsets no_chroma_offsets no_luma_offsets no_chroma_offsets is_last;
      rext =
          filled_extension h (chroma_offsets_l0 half_range h.pred_weight_table)
          (chroma_offsets_l1 half_range h.pred_weight_table);
    }
