-- The slice segment of a unit: its parameter sets and its whole header (7.4.2.4.2, 7.4.7.1).
use Rattle.std.specs.Prelude.{ℕ, true, List, Option, Some, None, option_map}
use Rattle.hevc_records.specs.SliceHeader.{PlainSliceSegmentHeader}
use Rattle.hevc_tables.specs.SliceHeaderTable.{ActiveSets, active_sets}
use Rattle.hevc_walk.specs.DependentSlices.{whole_slice}
use Rattle.hevc_walk.specs.Meanings.{Meaning, CodedSlice}
use Rattle.hevc_walk_units.specs.Units.{Standing}
use Rattle.hevc_stream.specs.Options.{Options}
use Rattle.hevc_stream.specs.Kept.{Kept}
use Rattle.hevc_stream.specs.Contents.{Content, sequence_set, slice, content}
use Rattle.hevc_records.specs.Sps.{PlainSps}
use Rattle.hevc_backend.specs.Handed.{Segment, PlainPicture, PlainDpb, no_picture, no_dpb}
use Rattle.hevc_driver.specs.Headers.{latest_behind, whole_header}
use Rattle.hevc_driver.specs.Given.{Given, dpb_at, picture_at, set_of}

-- the header of a slice segment that was read
abbrev pub header_in : Content → Option PlainSliceSegmentHeader
header_in (slice header own) = Some own
header_in other = None

-- and that of a unit of these bytes, where some sequence set is kept
abbrev pub own_header : Options → Kept → (bytes : List ℕ) → Option PlainSliceSegmentHeader
own_header options kept bytes =
    header_in (content options (record kept { has_sequence_set = true }) bytes)

-- the sequence set that was read, and that of a unit of these bytes
abbrev pub set_in : Content → Option PlainSps
set_in (sequence_set set) = Some set
set_in other = None

abbrev pub own_set : Options → Kept → (bytes : List ℕ) → Option PlainSps
own_set options kept bytes =
    set_in (content options (record kept { has_sequence_set = true }) bytes)

-- the latest independent header after a unit
abbrev pub latest_at : Meaning → (own latest : Option PlainSliceSegmentHeader)
    → Option PlainSliceSegmentHeader
latest_at (CodedSlice coded) (Some own) latest = latest_behind latest own
latest_at u own latest = latest

abbrev pub with_sets : Option ActiveSets → Option PlainSliceSegmentHeader → Option Segment
with_sets None header = None
with_sets (Some sets) header =
    option_map (λ h. record { sps = sets.sps; pps = sets.pps; header = h }) header

-- a segment with the sets that it makes active and its whole header
abbrev pub segment_with : Kept → (latest own : Option PlainSliceSegmentHeader) → Option Segment
segment_with kept latest None = None
segment_with kept latest (Some own) =
    with_sets (active_sets kept.sequence_sets kept.picture_sets own.pic_parameter_set_id)
    (whole_header latest own)

-- the slice segment of a unit of these bytes, if it is one
abbrev pub segment_at : Options → Kept → (latest : Option PlainSliceSegmentHeader)
    → (bytes : List ℕ) → Option Segment
segment_at options kept latest bytes = segment_with kept latest (own_header options kept bytes)

-- What was read of a unit: its sequence parameter set, or its slice segment.
pub record ReadUnit : Type 0 where
  pub set : Option PlainSps
  pub segment : Option Segment

-- neither
abbrev pub nothing_read : ReadUnit
nothing_read = record { set = None; segment = None }

-- of a unit of these bytes
abbrev pub read_at : Options → Kept → (latest : Option PlainSliceSegmentHeader) → (bytes : List ℕ)
    → ReadUnit
read_at options kept latest bytes = record {
  set = own_set options kept bytes;
  segment = segment_at options kept latest bytes;
}

-- the set whose format a unit of this meaning may negotiate: its own, or that of its segment
abbrev pub set_with : Meaning → ReadUnit → Option PlainSps
set_with (CodedSlice coded) read = set_of read.segment
set_with u read = read.set

-- the picture that it may begin
abbrev pub picture_with : Meaning → Option Segment → Standing → PlainPicture
picture_with (CodedSlice coded) segment s = picture_at (whole_slice s.kept coded) segment s
picture_with u segment s = no_picture

-- what is stored while its picture is decoded
abbrev pub dpb_with : Meaning → Standing → PlainDpb
dpb_with (CodedSlice coded) s = dpb_at coded s
dpb_with u s = no_dpb

-- its segment, if it is one
abbrev pub segment_if : Meaning → Option Segment → Option Segment
segment_if (CodedSlice coded) segment = segment
segment_if u segment = None

-- what comes with a unit of this meaning, of which this was read
abbrev pub given_with : (timestamp : ℕ) → Meaning → ReadUnit → Standing → Given
given_with timestamp u read s = record {
  timestamp = timestamp;
  set = set_with u read;
  picture = picture_with u read.segment s;
  dpb = dpb_with u s;
  segment = segment_if u read.segment;
}
