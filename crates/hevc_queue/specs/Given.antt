-- The calls of a log, and what was handed over with them, by what they were given.
use Rattle.std.specs.Prelude.{ℕ, List, [], ◌∷◌, Option, Some, None}
use Rattle.std.specs.List.{fold}
use Rattle.hevc_sequence_set.specs.declared.sps.Sps.{Sps}
use Rattle.hevc_sequence_set.specs.Sps.{plain_sps}
use Rattle.hevc_picture_slice.specs.declared.pps.Pps.{Pps}
use Rattle.hevc_picture_slice.specs.declared.slice.Slice as code
use Rattle.hevc_pictures.specs.declared.picture_data.PictureData.{PictureData}
use Rattle.hevc_dpb.specs.declared.dpb.Dpb.{Dpb}
use Rattle.hevc_refs.specs.declared.ref_pic_set.RefPicSet.{RefPicSet}
use Rattle.hevc_refs.specs.declared.ref_pic_list.RefPicList.{RefPicList}
use Rattle.hevc_backend.specs.declared.call.Call.{Call}
use Rattle.hevc_backend.specs.declared.call.Call.TheVariants.{SubmitPicture}
use Rattle.hevc_backend.specs.Calls.{new_sequence_call, new_picture_call, begin_picture_call}
use Rattle.hevc_backend.specs.Calls.{decode_slice_call}
use Rattle.hevc_backend.specs.Handed.{Handed, Sequence as SequenceHanded, Announced}
use Rattle.hevc_backend.specs.Handed.{Begun as BegunHanded, Decoded, plain_dpb, plain_picture}
use Rattle.hevc_backend.specs.Handed.{segment_of}
use Rattle.hevc_queue.specs.declared.given.BegunPicture.{BegunPicture}
use Rattle.hevc_queue.specs.declared.given.GivenSlice.{GivenSlice}
use Rattle.hevc_queue.specs.declared.given.Given.{Given}
use Rattle.hevc_queue.specs.declared.given.Given.TheVariants.{Sequence, Picture, Begun, Slice}
use Rattle.hevc_queue.specs.declared.given.Given.TheVariants.{Submission}

-- a picture, and a slice segment, with what came with them
abbrev pub begun_with : (number : ℕ) → PictureData → Sps → Pps → Dpb ℕ → RefPicSet → code.Slice
    → BegunPicture
begun_with number picture sps pps buffer reference_set slice = record {
  number = number;
  picture = picture;
  sps = sps;
  pps = pps;
  buffer = buffer;
  reference_set = reference_set;
  slice = slice;
}

abbrev pub slice_with : (number : ℕ) → code.Slice → Sps → Pps → Dpb ℕ → (list0 list1 : RefPicList)
    → GivenSlice
slice_with number slice sps pps buffer list0 list1 = record {
  number = number;
  slice = slice;
  sps = sps;
  pps = pps;
  buffer = buffer;
  list0 = list0;
  list1 = list1;
}

abbrev pub call_of : Given → Call ℕ
call_of (Sequence sps) = new_sequence_call sps
call_of (Picture number picture timestamp) = new_picture_call number picture timestamp
call_of (Begun b) = begin_picture_call b.number b.reference_set
call_of (Slice s) = decode_slice_call s.number s.slice s.list0 s.list1
call_of (Submission number) = SubmitPicture number number

abbrev pub handed_in : Given → List Handed
handed_in (Sequence sps) = SequenceHanded (plain_sps sps) ∷ []
handed_in (Picture number picture timestamp) = Announced number (plain_picture picture) ∷ []
handed_in (Begun b) =
    BegunHanded b.number (plain_picture b.picture) (plain_dpb b.buffer)
    (segment_of b.slice b.sps b.pps)
    ∷ []
handed_in (Slice s) =
    Decoded s.number (plain_dpb s.buffer) (segment_of s.slice s.sps s.pps) ∷ []
handed_in (Submission number) = []

-- the latest picture that began is this one, or the one that it was before
abbrev pub begun_after : Option BegunPicture → Given → Option BegunPicture
begun_after latest (Begun b) = Some b
begun_after latest other = latest

abbrev pub latest_begun : List Given → Option BegunPicture
latest_begun given = fold begun_after None given

-- the same of its slice segments: none where a picture has just begun
abbrev pub slice_after : Option GivenSlice → Given → Option GivenSlice
slice_after latest (Begun b) = None
slice_after latest (Slice s) = Some s
slice_after latest other = latest

abbrev pub latest_slice : List Given → Option GivenSlice
latest_slice given = fold slice_after None given
