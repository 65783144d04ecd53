-- Why units are refused.
use Rattle.std.specs.Prelude.{◌-◌, ◌==◌, if◌then◌else◌, drop, Option, Some, None}
use Rattle.hevc_spec.specs.Payload.{payload}
use Rattle.hevc_spec.specs.Rows.{row}
use Rattle.hevc_spec.specs.Table.{Fault, out_of_bits, out_of_range, not_kept, Reading, gives}
use Rattle.hevc_spec.specs.Table.{refuses, read}
use Rattle.hevc_spec.specs.UnitHeader.{UnitHeader}
use Rattle.hevc_spec.specs.UnitTypes.{is_slice}
use Rattle.hevc_bits.specs.FoundUnit.{FoundUnit, bytes_of}
use Rattle.hevc_tables.specs.VpsTable.{video_parameter_set}
use Rattle.hevc_tables.specs.SpsTable.{sequence_parameter_set}
use Rattle.hevc_tables.specs.PpsTable.{picture_parameter_set}
use Rattle.hevc_tables.specs.SliceHeaderTable.{slice_segment_header}
use Rattle.hevc_elements.specs.declared.parse_error.ParseError.{ParseError}
use Rattle.hevc_elements.specs.declared.parse_error.ParseError.TheVariants as errors
use Rattle.hevc_stream.specs.Kept.{Kept}
use Rattle.hevc_parser.specs.Slices.{active_of}
use Rattle.hevc_syntax_text.specs.declared.cause.Cause.{Cause}
use Rattle.hevc_syntax_text.specs.declared.cause.Cause.TheVariants.{OutOfBits, OutOfRange}
use Rattle.hevc_syntax_text.specs.declared.cause.Cause.TheVariants.{MissingSps, MissingPps}

-- The cause of a fault. A picture set names its sequence set (row 2 of table 11), and a slice its
-- picture set.
abbrev pub fault_cause : Fault → Cause
fault_cause out_of_bits = OutOfBits
fault_cause (out_of_range r) = OutOfRange r
fault_cause (not_kept r id) = if r.0 == 11 then MissingSps id else MissingPps id

-- why a payload isn't read, if it isn't
abbrev pub cause_in : {A : Type 0} → Reading A → Option Cause
cause_in (gives x rest) = None
cause_in (refuses fault rest) = Some (fault_cause fault)

-- The same of a unit, with the sets that are kept: a video (32), sequence (33) or picture parameter
-- set (34), or a slice segment by its header. Another unit isn't refused (Table 7-1).
unfoldable pub cause_of_unit : Kept → FoundUnit UnitHeader → Option Cause
cause_of_unit kept unit =
    let header = unit.header in
    let bits = payload (bytes_of unit) in
    if header.nal_unit_type == 32 then cause_in (read video_parameter_set bits)
    else if header.nal_unit_type == 33 then cause_in (read sequence_parameter_set bits)
    else if header.nal_unit_type == 34 then
    cause_in
    (read (picture_parameter_set (header.nuh_temporal_id_plus1 - 1) kept.sequence_sets) bits)
    else if is_slice header.nal_unit_type then
    cause_in
    (read (slice_segment_header header.nal_unit_type (drop 2 (bytes_of unit)) (active_of kept))
    bits)
    else None

-- the cause that an error of reading tells of
abbrev pub error_cause : ParseError → Option Cause
error_cause errors.OutOfBits = Some OutOfBits
error_cause (errors.OutOfRange table number) = Some (OutOfRange (row table number))
error_cause (errors.MissingSps id) = Some (MissingSps id)
error_cause (errors.MissingPps id) = Some (MissingPps id)
error_cause errors.WrongNaluType = None
error_cause errors.NoMemory = None
