-- The content of a unit (7.4.2.2, Table 7-1) where it is in a stream: what it means after the
-- parameter sets that are kept there.
use Rattle.std.specs.Prelude.{ℕ, ◌==◌, nat_le, not, Bool, ◌&&◌, List, drop, if◌then◌else◌, Result, Ok, Err}
use Rattle.hevc_spec.specs.UnitTypes.{is_slice}
use Rattle.hevc_spec.specs.UnitHeader.{UnitHeader, HeaderFault, truncated, unspecified_type}
use Rattle.hevc_spec.specs.UnitHeader.{temporal_id_zero, unit_header}
use Rattle.hevc_spec.specs.Payload.{payload}
use Rattle.hevc_spec.specs.Table.{Fault, out_of_bits, out_of_range, not_kept, Reading, gives}
use Rattle.hevc_spec.specs.Table.{refuses, read}
use Rattle.hevc_records.specs.Vps.{PlainVps}
use Rattle.hevc_records.specs.Sps.{PlainSps}
use Rattle.hevc_records.specs.Pps.{PlainPps}
use Rattle.hevc_records.specs.SliceHeader.{PlainSliceSegmentHeader}
use Rattle.hevc_tables.specs.VpsTable.{video_parameter_set}
use Rattle.hevc_tables.specs.SpsTable.{sequence_parameter_set}
use Rattle.hevc_tables.specs.PpsTable.{picture_parameter_set}
use Rattle.hevc_tables.specs.SliceHeaderTable.{slice_segment_header, active_sets}
use Rattle.hevc_walk.specs.Meanings.{UnitCause, TruncatedNalu, InvalidNaluType, OutOfBits}
use Rattle.hevc_walk.specs.Meanings.{OutOfRange, MissingPps}
use Rattle.hevc_stream.specs.Options.{Options}
use Rattle.hevc_stream.specs.Kept.{Kept}
use Rattle.hevc_stream.specs.Slices.{temporal_id}

pub data Content : Type 0 where
  refused : UnitCause → Content
  video_set : PlainVps → Content
  sequence_set : PlainSps → Content
  picture_set : PlainPps → Content
  -- a picture set that can't be read yet, or at all
  unread_picture_set : Content
  -- a slice segment, with the headers of its unit and its own
  slice : UnitHeader → PlainSliceSegmentHeader → Content
  end_of_sequence : Content
  end_of_bitstream : Content
  -- a unit that asks for nothing
  nothing : Content

-- why a unit with this fault of its header is refused; nuh_temporal_id_plus1 is row 1 of table 0
abbrev pub header_cause : HeaderFault → UnitCause
header_cause truncated = TruncatedNalu
header_cause (unspecified_type number) = InvalidNaluType number
header_cause temporal_id_zero = OutOfRange 0 1

-- why a unit that isn't read is refused; the set that
-- isn't kept is the picture set that a slice names
abbrev pub fault_cause : Fault → UnitCause
fault_cause out_of_bits = OutOfBits
fault_cause (out_of_range row) = OutOfRange row.0 row.1
fault_cause (not_kept row id) = MissingPps id

-- the payload is read by the table of its kind, or the unit is refused
abbrev pub content_read : {A : Type 0} → (A → Content) → Reading A → Content
content_read means (gives x rest) = means x
content_read means (refuses fault rest) = refused (fault_cause fault)

-- a picture set is read, or waits
abbrev pub picture_set_read : Reading PlainPps → Content
picture_set_read (gives set rest) = picture_set set
picture_set_read (refuses fault rest) = unread_picture_set

-- a slice segment (7.3.6.1) of a unit of these bytes, with the sets that are kept
abbrev pub slice_content : Kept → UnitHeader → List ℕ → Content
slice_content kept header bytes =
    content_read (slice header)
    (read
    (slice_segment_header header.nal_unit_type (drop 2 bytes)
    (active_sets kept.sequence_sets kept.picture_sets))
    (payload bytes))

-- what a unit is that is no parameter set; it asks for nothing before the first sequence set
abbrev pub coded_content : Kept → UnitHeader → List ℕ → Content
coded_content kept header bytes =
    if not kept.has_sequence_set then nothing
    else if is_slice header.nal_unit_type then slice_content kept header bytes
    else if header.nal_unit_type == 36 then end_of_sequence
    else if header.nal_unit_type == 37 then end_of_bitstream
    else nothing

-- the content by the unit's type (Table 7-1)
abbrev pub content_by_type : Kept → UnitHeader → List ℕ → Content
content_by_type kept header bytes =
    if header.nal_unit_type == 32
    then content_read video_set (read video_parameter_set (payload bytes))
    else if header.nal_unit_type == 33
    then content_read sequence_set (read sequence_parameter_set (payload bytes))
    else if header.nal_unit_type == 34
    then picture_set_read
    (read (picture_parameter_set (temporal_id header) kept.sequence_sets) (payload bytes))
    else coded_content kept header bytes

-- a unit of a sub-layer and a layer that are wanted (8.1.2)
abbrev pub wants : Options → UnitHeader → Bool
wants options header =
    nat_le (temporal_id header) options.highest_tid
    && nat_le header.nuh_layer_id options.highest_layer

-- a unit that isn't wanted is passed over (8.1.2)
abbrev pub wanted_content : Options → Kept → UnitHeader → List ℕ → Content
wanted_content options kept header bytes =
    if wants options header then content_by_type kept header bytes else nothing

-- a unit whose header is faulty is refused before all else (7.3.1.2)
abbrev pub headed_content : Options → Kept → List ℕ → Result UnitHeader HeaderFault → Content
headed_content options kept bytes (Ok header) = wanted_content options kept header bytes
headed_content options kept bytes (Err fault) = refused (header_cause fault)

-- the content of a unit of these bytes (7.3.1.1)
unfoldable pub content : Options → Kept → List ℕ → Content
content options kept bytes = headed_content options kept bytes (unit_header bytes)
