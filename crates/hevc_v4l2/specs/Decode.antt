-- What a picture is decoded with, as Linux's stateless decoders take it.
use Rattle.std.specs.Prelude.{ℕ, ◌+◌, ◌-◌, not, ◌||◌, nat_lt, List, [], ◌∷◌, length, map, filter}
use Rattle.std.specs.Prelude.{replicate, slice_index_or, if◌then◌else◌, Option, Some, None}
use Rattle.hevc_spec.specs.UnitTypes.{is_idr}
use Rattle.hevc_records.specs.Sps.{PlainSps}
use Rattle.hevc_records.specs.SliceHeader.{PlainSliceSegmentHeader}
use Rattle.hevc_records.specs.ShortTermRefPicSet.{default_short_term_ref_pic_set}
use Rattle.hevc_bits.specs.NaluType.{nalu_type_number}
use Rattle.hevc_picture_slice.specs.declared.slice.Slice.{Slice}
use Rattle.hevc_picture_slice.specs.SliceHeader.{plain_slice_header}
use Rattle.hevc_walk.specs.ReferenceSets.{RefPicSet}
use Rattle.hevc_pictures.specs.declared.picture_data.PictureData.{PictureData}
use Rattle.hevc_dpb.specs.declared.entry.DpbEntry.{DpbEntry}
use Rattle.hevc_dpb.specs.Entries.{is_ref, reference_numbers}
use Rattle.hevc_v4l2.specs.declared.error.ControlError.{ControlError}
use Rattle.hevc_v4l2.specs.declared.error.ControlError.TheVariants.{ShortTermSize}
use Rattle.hevc_v4l2.specs.declared.decode.V4l2CtrlHevcDecodeParams.{V4l2CtrlHevcDecodeParams}
use Rattle.hevc_v4l2.specs.Arrays.{padded}
use Rattle.hevc_v4l2.specs.Buffer.{control_of_entry, member_index, no_entry}
use Rattle.hevc_events.specs.Flags.{flags_of}
use Rattle.hevc_v4l2.specs.LongTerm.{long_term_size}

-- what the struct can't hold
abbrev pub short_term_error : PlainSliceSegmentHeader → Option ControlError
short_term_error h = if nat_lt 65535 h.st_rps_bits then Some ShortTermSize else None

-- NumDeltaPocs[ RefRpsIdx ], RefRpsIdx being stRpsIdx - ( delta_idx_minus1 + 1 ) (7-59), of the
-- header's own set, whose stRpsIdx is the number of the sequence set's; 0 where it isn't predicted
abbrev pub num_delta_pocs_of_ref_rps : PlainSps → PlainSliceSegmentHeader → ℕ
num_delta_pocs_of_ref_rps sps h =
    let set = h.short_term_ref_pic_set in
    let ref_rps_idx = sps.num_short_term_ref_pic_sets - (set.delta_idx_minus1 + 1) in
    if h.short_term_ref_pic_set_sps_flag || not set.inter_ref_pic_set_prediction_flag then 0
    else (slice_index_or sps.short_term_ref_pic_set ref_rps_idx
    default_short_term_ref_pic_set).num_delta_pocs

-- in the order of V4L2_HEVC_DECODE_PARAM_FLAG_*
abbrev pub decode_flags : PictureData → ℕ
decode_flags p =
    flags_of
    (p.is_irap ∷
    is_idr (nalu_type_number p.nalu_type) ∷
    p.no_output_of_prior_pics_flag ∷ [])

-- where the members of a list are among the reference pictures of the buffer, in sixteen places
abbrev pub indices_of : List (DpbEntry ℕ) → (members : List (Option ℕ)) → List ℕ
indices_of es members = padded 255 (map (member_index (reference_numbers es)) members)

-- The buffer's reference pictures are told in stored order, and the members of the reference
-- picture set by where they are among these. Sizes are those of the first slice's header.
abbrev pub control_of_decoding : PictureData → (first : Slice) → PlainSps
    → (stored : List (DpbEntry ℕ)) → RefPicSet → V4l2CtrlHevcDecodeParams
control_of_decoding p first sps stored set =
    let h = plain_slice_header first.header in
    let references = filter is_ref stored in
    record {
      pic_order_cnt_val = p.pic_order_cnt_val;
      short_term_ref_pic_set_size = h.st_rps_bits;
      long_term_ref_pic_set_size = long_term_size first.nalu.header.nal_unit_type sps h;
      num_active_dpb_entries = length references;
      num_poc_st_curr_before = length set.st_curr_before;
      num_poc_st_curr_after = length set.st_curr_after;
      num_poc_lt_curr = length set.lt_curr;
      poc_st_curr_before = indices_of stored set.st_curr_before;
      poc_st_curr_after = indices_of stored set.st_curr_after;
      poc_lt_curr = indices_of stored set.lt_curr;
      num_delta_pocs_of_ref_rps_idx = num_delta_pocs_of_ref_rps sps h;
      reserved = replicate 3 0;
      dpb = padded no_entry (map control_of_entry references);
      flags = decode_flags p;
    }
