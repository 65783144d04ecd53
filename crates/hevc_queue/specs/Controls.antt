-- The structs of Linux's stateless decoders, of the latest calls.
use Rattle.std.specs.Prelude.{◌≡◌, ◌≤◌, ℕ, List, length, drop, Option, Some, None, Result, Ok, Err}
use Rattle.std.specs.Option.{option_map, option_or}
use Rattle.std.specs.Box.{box_value}
use Rattle.std.specs.Global.{Box}
use Rattle.hevc_sequence_set.specs.Sps.{plain_sps}
use Rattle.hevc_picture_slice.specs.Pps.{plain_pps}
use Rattle.hevc_picture_slice.specs.SliceHeader.{plain_slice_header}
use Rattle.hevc_pictures.specs.declared.picture_data.PictureData.{PictureData}
use Rattle.hevc_dpb.specs.Entries.{reference_numbers}
use Rattle.hevc_dpb.specs.Views.{stored_entries}
use Rattle.hevc_refs.specs.Lists.{places_of}
use Rattle.hevc_refs.specs.Sets.{plain_set}
use Rattle.hevc_v4l2.specs.declared.error.ControlError.{ControlError}
use Rattle.hevc_v4l2.specs.declared.slice.SliceControls.{SliceControls}
use Rattle.hevc_v4l2.specs.SequenceSet.{control_of_sps}
use Rattle.hevc_v4l2.specs.PictureSet.{control_of_pps, pps_error}
use Rattle.hevc_v4l2.specs.Scaling.{active_lists, control_of_lists}
use Rattle.hevc_v4l2.specs.Decode.{control_of_decoding, short_term_error}
use Rattle.hevc_v4l2.specs.Slice.{controls_of_slice, slice_error}
use Rattle.hevc_queue.specs.declared.controls.PictureControls.{PictureControls}
use Rattle.hevc_queue.specs.declared.controls.BegunControls.{BegunControls}
use Rattle.hevc_queue.specs.declared.controls.SegmentControls.{SegmentControls}
use Rattle.hevc_queue.specs.declared.controls.Controls.{Controls}
use Rattle.hevc_queue.specs.declared.given.BegunPicture.{BegunPicture}
use Rattle.hevc_queue.specs.declared.given.GivenSlice.{GivenSlice}
use Rattle.hevc_queue.specs.declared.given.Given.{Given}
use Rattle.hevc_queue.specs.Given.{latest_begun, latest_slice}

-- the structs, or what they can't hold
abbrev pub held : {X : Type 0} → Option ControlError → X → Result X ControlError
held None x = Ok x
held (Some error) x = Err error

-- the first thing that the structs of a picture can't hold
abbrev pub picture_error : BegunPicture → Option ControlError
picture_error b =
    option_or (pps_error (plain_pps b.pps)) (short_term_error (plain_slice_header b.slice.header))

-- those of its sets, its scaling lists, and the picture itself
abbrev pub structs_of_picture : BegunPicture → PictureControls
structs_of_picture b = record {
  sps = control_of_sps (plain_sps b.sps);
  pps = control_of_pps (plain_pps b.pps);
  scaling_matrix = control_of_lists (active_lists (plain_sps b.sps) (plain_pps b.pps));
  decode_params =
      control_of_decoding b.picture b.slice (plain_sps b.sps) (stored_entries b.buffer)
      (plain_set b.reference_set);
}

abbrev pub picture_controls : BegunPicture → Result PictureControls ControlError
picture_controls b = held (picture_error b) (structs_of_picture b)

-- that of a slice segment of this picture
abbrev pub slice_controls : PictureData → GivenSlice → Result SliceControls ControlError
slice_controls picture s =
    held
    (slice_error s.slice (plain_sps s.sps) (places_of s.list0) (places_of s.list1))
    (controls_of_slice picture s.slice (plain_sps s.sps)
    (reference_numbers (stored_entries s.buffer)) (places_of s.list0) (places_of s.list1))

-- those of the latest picture that began
abbrev pub latest_picture_controls : List Given → Option (Result PictureControls ControlError)
latest_picture_controls given = option_map picture_controls (latest_begun given)

-- with the entry points of its header, of which each has 1 less than there are bytes to the next
abbrev pub segment_controls : PictureData → GivenSlice → SegmentControls
segment_controls picture s = record {
  filled = slice_controls picture s;
  offsets_minus1 = s.slice.header.entry_point_offset_minus1;
}

abbrev pub segment_of_picture : Option BegunPicture → Option GivenSlice → Option SegmentControls
segment_of_picture (Some b) (Some s) = Some (segment_controls b.picture s)
segment_of_picture b s = None

-- those of the latest slice segment
abbrev pub latest_segment : List Given → Option SegmentControls
latest_segment given = segment_of_picture (latest_begun given) (latest_slice given)

abbrev pub latest_slice_controls : List Given → Option (Result SliceControls ControlError)
latest_slice_controls given =
    option_map (λ (c : SegmentControls). c.filled) (latest_segment given)

abbrev pub latest_offsets_minus1 : List Given → Option (List ℕ)
latest_offsets_minus1 given =
    option_map (λ (c : SegmentControls). c.offsets_minus1) (latest_segment given)

-- those that are in a box
abbrev pub wanted : Option (Box Controls) → Option Controls
wanted controls = option_map (λ (b : Box Controls). box_value b) controls

abbrev pub begun_controls : BegunPicture → BegunControls
begun_controls b = record { picture = b.picture; filled = picture_controls b }

-- the structs once a picture begins, and after a slice segment of it
abbrev pub with_begun : BegunPicture → Controls → Controls
with_begun b controls = record { begun = Some (begun_controls b); slice = None }

abbrev pub with_slice : GivenSlice → Controls → Controls
with_slice s controls = record controls {
  slice = option_map (λ (b : BegunControls). segment_controls b.picture s) controls.begun;
}

-- those of the latest picture that began, and of its latest slice segment
abbrev pub controls_of : List Given → Controls
controls_of given = record {
  begun = option_map begun_controls (latest_begun given);
  slice = latest_segment given;
}

-- where structs are wanted, they are those of the calls since
abbrev pub AreOfCalls : Option Controls → (before given : List Given) → Type 0
AreOfCalls None before given = Unit {0}
AreOfCalls (Some controls) before given =
    (length before ≤ length given) × (controls ≡ controls_of (drop (length before) given))
