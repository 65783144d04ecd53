-- What comes with a unit, and what its calls hand over.
use Rattle.std.specs.Prelude.{ℕ, ◌≡◌, List, [], ◌∷◌, map, Option, Some, None, option_map}
use Rattle.std.specs.List.{flat_map}
use Rattle.hevc_walk.specs.DependentSlices.{whole_slice}
use Rattle.hevc_walk.specs.Meanings.{Slice, CodedSlice}
use Rattle.hevc_walk.specs.Walk as walk
use Rattle.hevc_walk.specs.Walk.{Event, Called, Output}
use Rattle.hevc_walk_units.specs.Units.{Standing, finish_current, begin_slice, unit_part}
use Rattle.hevc_records.specs.Sps.{PlainSps}
use Rattle.hevc_backend.specs.Handed.{Segment, PlainPicture, PlainDpb, Handed, Sequence, Announced}
use Rattle.hevc_backend.specs.Handed.{Begun, Decoded, dpb_of, first_picture, no_picture}

-- What comes with a unit.
pub record Given : Type 0 where
  -- the time at which its picture is to be output, in the caller's unit
  pub timestamp : ℕ
  -- the sequence parameter set whose format it may negotiate
  pub set : Option PlainSps
  -- the picture, if it begins one
  pub picture : PlainPicture
  -- what is stored while its picture is decoded
  pub dpb : PlainDpb
  -- the slice segment, if it is one
  pub segment : Option Segment

-- a slice segment with its picture, and what is stored while that is decoded
abbrev pub given_slice : (timestamp : ℕ) → PlainPicture → PlainDpb → Segment → Given
given_slice timestamp picture dpb segment = record {
  timestamp = timestamp;
  set = Some segment.sps;
  picture = picture;
  dpb = dpb;
  segment = Some segment;
}

-- the picture that begins with a slice where none is current (8.1.3)
abbrev pub picture_from : Slice → Segment → Standing → PlainPicture
picture_from slice segment s = first_picture s.next slice segment.header.st_rps_bits

-- a slice segment that begins a picture where none is current
abbrev pub given_first : (timestamp : ℕ) → Slice → Segment → Standing → Given
given_first timestamp slice segment s =
    given_slice timestamp (picture_from slice segment s) (dpb_of (begin_slice slice s).next.store)
    segment

-- and where the one that is current is over before
abbrev pub next_picture : Slice → Segment → Standing → PlainPicture
next_picture slice segment s = picture_from slice segment (finish_current s).next

-- and of a slice that may lack an independent one; where it begins no picture nothing is asked
abbrev pub picture_at : Option Slice → Option Segment → Standing → PlainPicture
picture_at (Some whole) (Some segment) s = next_picture whole segment s
picture_at whole segment s = no_picture

-- What is stored while the picture of a slice is decoded (C.5.2.2). What leaves before has left as
-- the picture begins, and no slice stores its own picture: so it is what is stored after it.
abbrev pub dpb_at : Slice → Standing → PlainDpb
dpb_at slice s = dpb_of (unit_part (CodedSlice slice) s).next.store

-- the set of a segment
abbrev pub set_of : Option Segment → Option PlainSps
set_of segment = option_map (λ s. s.sps) segment

-- a slice with its segment, where there is one
abbrev pub given_at : (timestamp : ℕ) → Slice → Option Segment → Standing → Given
given_at timestamp slice segment s = record {
  timestamp = timestamp;
  set = set_of segment;
  picture = picture_at (whole_slice s.kept slice) segment s;
  dpb = dpb_at slice s;
  segment = segment;
}

abbrev pub sequence_with : Option PlainSps → List Handed
sequence_with None = []
sequence_with (Some set) = Sequence set ∷ []

abbrev pub begun_with : (number : ℕ) → PlainPicture → PlainDpb → Option Segment → List Handed
begun_with number picture dpb None = []
begun_with number picture dpb (Some segment) = Begun number picture dpb segment ∷ []

abbrev pub decoded_with : (number : ℕ) → PlainDpb → Option Segment → List Handed
decoded_with number dpb None = []
decoded_with number dpb (Some segment) = Decoded number dpb segment ∷ []

-- what comes with a call of a unit
abbrev pub handed_by : Given → walk.Call → List Handed
handed_by given (walk.NewSequence info) = sequence_with given.set
handed_by given (walk.NewPicture number nal_unit_type order_count output timestamp) =
    Announced number given.picture ∷ []
handed_by given (walk.BeginPicture number set) =
    begun_with number given.picture given.dpb given.segment
handed_by given (walk.DecodeSlice number address bytes list0 list1) =
    decoded_with number given.dpb given.segment
handed_by given (walk.SubmitPicture number) = []

abbrev pub handed_in : Given → Event → List Handed
handed_in given (Called call) = handed_by given call
handed_in given (Output number order_count) = []

-- ---- what comes, and the calls that it comes with

-- a call that hands something over, and its picture
pub data HandingCall : Type 0 where
  OfNewSequence : HandingCall
  OfNewPicture : (number : ℕ) → HandingCall
  OfBeginPicture : (number : ℕ) → HandingCall
  OfDecodeSlice : (number : ℕ) → HandingCall

-- the call that this came with
abbrev pub call_with : Handed → HandingCall
call_with (Sequence set) = OfNewSequence
call_with (Announced number picture) = OfNewPicture number
call_with (Begun number picture dpb segment) = OfBeginPicture number
call_with (Decoded number dpb segment) = OfDecodeSlice number

-- whether a call is one of these
abbrev pub handing_call : walk.Call → List HandingCall
handing_call (walk.NewSequence info) = OfNewSequence ∷ []
handing_call (walk.NewPicture number nal_unit_type order_count output timestamp) =
    OfNewPicture number ∷ []
handing_call (walk.BeginPicture number set) = OfBeginPicture number ∷ []
handing_call (walk.DecodeSlice number address bytes list0 list1) = OfDecodeSlice number ∷ []
handing_call (walk.SubmitPicture number) = []

-- what came goes one to one with the calls that hand something over, in their order
abbrev pub AreOneToOne : List Handed → List walk.Call → Type 0
AreOneToOne hs calls = map call_with hs ≡ flat_map handing_call calls
