-- The calls that are in a log, by what is handed over.
use Rattle.std.specs.Prelude.{ℕ}
use Rattle.hevc_bits.specs.FoundUnit.{bytes_of}
use Rattle.hevc_sequence_set.specs.declared.sps.Sps.{Sps}
use Rattle.hevc_sequence_set.specs.Sps.{plain_sps}
use Rattle.hevc_picture_slice.specs.declared.slice.Slice.{Slice}
use Rattle.hevc_walk_inputs.specs.Sequences.{format_of_set}
use Rattle.hevc_pictures.specs.declared.picture_data.PictureData.{PictureData}
use Rattle.hevc_refs.specs.declared.ref_pic_set.RefPicSet.{RefPicSet}
use Rattle.hevc_refs.specs.declared.ref_pic_list.RefPicList.{RefPicList}
use Rattle.hevc_refs.specs.Sets.{plain_set}
use Rattle.hevc_refs.specs.Lists.{places_of}
use Rattle.hevc_backend.specs.declared.call.Call.{Call}
use Rattle.hevc_backend.specs.declared.call.Call.TheVariants.{NewSequence, NewPicture, BeginPicture}
use Rattle.hevc_backend.specs.declared.call.Call.TheVariants.{DecodeSlice}
use Rattle.hevc_backend.specs.Negotiation.{info_of}

abbrev pub new_sequence_call : {H : Type 0} → Sps → Call H
new_sequence_call sps = NewSequence (info_of (format_of_set (plain_sps sps)))

abbrev pub new_picture_call : {H : Type 0} → (number : ℕ) → PictureData → (timestamp : ℕ) → Call H
new_picture_call number p timestamp =
    NewPicture number p.nalu_type p.pic_order_cnt_val p.pic_output_flag timestamp

abbrev pub begin_picture_call : {H : Type 0} → (number : ℕ) → RefPicSet → Call H
begin_picture_call number rps =
    BeginPicture number (plain_set rps).st_curr_before (plain_set rps).st_curr_after
    (plain_set rps).st_foll
    (plain_set rps).lt_curr (plain_set rps).lt_foll

-- the bytes are those of the slice's unit, from its header on
abbrev pub decode_slice_call : {H : Type 0} → (number : ℕ) → Slice → (list0 list1 : RefPicList)
    → Call H
decode_slice_call number slice list0 list1 =
    DecodeSlice number slice.header.segment_address (bytes_of slice.nalu) (places_of list0)
    (places_of list1)
