-- A slice segment as Linux's stateless decoders take it.
use Rattle.std.specs.Prelude.{ℕ, ◌+◌, ◌*◌, ◌/◌, ◌||◌, nat_lt, pos, List, [], ◌∷◌, map, replicate}
use Rattle.std.specs.Prelude.{if◌then◌else◌, Option, Some, None}
use Rattle.std.specs.List.{list_any}
use Rattle.std.specs.Option.{option_or}
use Rattle.hevc_records.specs.Sps.{PlainSps}
use Rattle.hevc_records.specs.SliceHeader.{PlainSliceSegmentHeader}
use Rattle.hevc_pictures.specs.declared.picture_data.PictureData.{PictureData}
use Rattle.hevc_picture_slice.specs.declared.slice.Slice.{Slice}
use Rattle.hevc_picture_slice.specs.SliceHeader.{plain_slice_header}
use Rattle.hevc_refs.specs.declared.ref_pic_list.RefPicListEntry.{RefPicListEntry}
use Rattle.hevc_v4l2.specs.declared.error.ControlError.{ControlError}
use Rattle.hevc_v4l2.specs.declared.error.ControlError.TheVariants.{UnitSize, ShortTermSize}
use Rattle.hevc_v4l2.specs.declared.error.ControlError.TheVariants.{CurrentPicture}
use Rattle.hevc_v4l2.specs.declared.weights.V4l2HevcPredWeightTable.{V4l2HevcPredWeightTable}
use Rattle.hevc_v4l2.specs.declared.slice.V4l2CtrlHevcSliceParams.{V4l2CtrlHevcSliceParams}
use Rattle.hevc_v4l2.specs.declared.slice.SliceControls.{SliceControls}
use Rattle.hevc_v4l2.specs.Arrays.{padded}
use Rattle.hevc_v4l2.specs.Buffer.{is_current, place_index}
use Rattle.hevc_events.specs.Flags.{flags_of}
use Rattle.hevc_v4l2.specs.LongTerm.{long_term_size}
use Rattle.hevc_v4l2.specs.Weights.{control_of_weights, weights_error}

-- The slice's data follow the byte in which its header ends. Emulation prevention bytes (7.3.1.1)
-- don't count: the kernel's text doesn't say it, but the clients that its drivers were written for
-- don't count them.
abbrev pub data_byte_offset : PlainSliceSegmentHeader → ℕ
data_byte_offset h = (h.header_bit_size + 7) / 8

-- the same in the bytes of the unit, among which they are
abbrev pub raw_data_byte_offset : PlainSliceSegmentHeader → ℕ
raw_data_byte_offset h = data_byte_offset h + h.n_emulation_prevention_bytes

-- The sizes of reference picture sets are those of what the header includes. That of a dependent
-- slice segment includes none (7.3.6.1).
abbrev pub included_bits : PlainSliceSegmentHeader → ℕ → ℕ
included_bits h bits = if h.dependent_slice_segment_flag then 0 else bits

-- the first of the sizes that the structs can't hold, of a unit of this many bytes
abbrev pub sizes_error : (size : ℕ) → PlainSliceSegmentHeader → Option ControlError
sizes_error size h =
    if nat_lt 4294967295 (8 * size) || nat_lt 4294967295 (raw_data_byte_offset h)
    then Some UnitSize
    else if nat_lt 65535 (included_bits h h.st_rps_bits) then Some ShortTermSize
    else None

-- the current picture, which isn't in the buffer, can't be named
abbrev pub lists_error : (places0 places1 : List (Option RefPicListEntry)) → Option ControlError
lists_error places0 places1 =
    if list_any is_current places0 || list_any is_current places1 then Some CurrentPicture else None

-- the first thing that the struct can't hold
abbrev pub slice_error : Slice → PlainSps → (places0 places1 : List (Option RefPicListEntry))
    → Option ControlError
slice_error slice sps places0 places1 =
    let h = plain_slice_header slice.header in
    option_or (sizes_error slice.nalu.size h)
    (option_or (weights_error (pos sps.wp_offset_half_range_c) h.pred_weight_table)
    (lists_error places0 places1))

-- in the order of V4L2_HEVC_SLICE_PARAMS_FLAG_*
abbrev pub slice_flags : PlainSliceSegmentHeader → ℕ
slice_flags h =
    flags_of
    (h.sao_luma_flag ∷
    h.sao_chroma_flag ∷
    h.temporal_mvp_enabled_flag ∷
    h.mvd_l1_zero_flag ∷
    h.cabac_init_flag ∷
    h.collocated_from_l0_flag ∷
    h.use_integer_mv_flag ∷
    h.deblocking_filter_disabled_flag ∷
    h.loop_filter_across_slices_enabled_flag ∷
    h.dependent_slice_segment_flag ∷ [])

-- Each field has the element of its name, the header of a dependent slice segment being completed.
-- Pictures are frames (pic_struct): SEI messages aren't read.
abbrev pub filled_control : PictureData → Slice → PlainSps
    → (bit_size data_offset short_term_bits : ℕ) → V4l2HevcPredWeightTable
    → (ref_idx_l0 ref_idx_l1 : List ℕ) → V4l2CtrlHevcSliceParams
filled_control picture slice sps bit_size data_offset short_term_bits weights l0 l1 =
    let h = plain_slice_header slice.header in
    record {
      bit_size = bit_size;
      data_byte_offset = data_offset;
      num_entry_point_offsets = h.num_entry_point_offsets;
      nal_unit_type = slice.nalu.header.nal_unit_type;
      nuh_temporal_id_plus1 = slice.nalu.header.nuh_temporal_id_plus1;
      slice_type = h.type_;
      colour_plane_id = h.colour_plane_id;
      slice_pic_order_cnt = picture.pic_order_cnt_val;
      num_ref_idx_l0_active_minus1 = h.num_ref_idx_l0_active_minus1;
      num_ref_idx_l1_active_minus1 = h.num_ref_idx_l1_active_minus1;
      collocated_ref_idx = h.collocated_ref_idx;
      five_minus_max_num_merge_cand = h.five_minus_max_num_merge_cand;
      slice_qp_delta = h.qp_delta;
      slice_cb_qp_offset = h.cb_qp_offset;
      slice_cr_qp_offset = h.cr_qp_offset;
      slice_act_y_qp_offset = h.slice_act_y_qp_offset;
      slice_act_cb_qp_offset = h.slice_act_cb_qp_offset;
      slice_act_cr_qp_offset = h.slice_act_cr_qp_offset;
      slice_beta_offset_div2 = h.beta_offset_div2;
      slice_tc_offset_div2 = h.tc_offset_div2;
      pic_struct = 0;
      reserved0 = replicate 3 0;
      slice_segment_addr = h.segment_address;
      ref_idx_l0 = l0;
      ref_idx_l1 = l1;
      short_term_ref_pic_set_size = short_term_bits;
      long_term_ref_pic_set_size =
          included_bits h (long_term_size slice.nalu.header.nal_unit_type sps h);
      pred_weight_table = weights;
      reserved1 = replicate 2 0;
      flags = slice_flags h;
    }

-- Sizes and weights are those of the unit and its header, and each place of a list is where its
-- picture is among the reference pictures of the buffer, whose numbers these are; 255 where
-- there is no such picture, and after the list.
abbrev pub control_of_slice : PictureData → Slice → PlainSps → (numbers : List ℕ)
    → (places0 places1 : List (Option RefPicListEntry)) → V4l2CtrlHevcSliceParams
control_of_slice picture slice sps numbers places0 places1 =
    let h = plain_slice_header slice.header in
    filled_control picture slice sps
    (8 * slice.nalu.size) (data_byte_offset h) (included_bits h h.st_rps_bits)
    (control_of_weights (pos sps.wp_offset_half_range_c) h.pred_weight_table)
    (padded 255 (map (place_index numbers) places0))
    (padded 255 (map (place_index numbers) places1))

-- the same, and what it doesn't tell
abbrev pub controls_of_slice : PictureData → Slice → PlainSps → (numbers : List ℕ)
    → (places0 places1 : List (Option RefPicListEntry)) → SliceControls
controls_of_slice picture slice sps numbers places0 places1 = record {
  params = control_of_slice picture slice sps numbers places0 places1;
  raw_data_byte_offset = raw_data_byte_offset (plain_slice_header slice.header);
}
