-- What reading a unit tells: the elements of a set or of a slice segment header, by their table.
use Rattle.std.specs.Prelude.{ℕ, ◌-◌, ◌==◌, if◌then◌else◌, List, [], drop}
use Rattle.hevc_spec.specs.Payload.{payload}
use Rattle.hevc_spec.specs.UnitHeader.{UnitHeader}
use Rattle.hevc_spec.specs.UnitTypes.{is_slice}
use Rattle.hevc_bits.specs.FoundUnit.{FoundUnit, bytes_of}
use Rattle.hevc_tables.specs.VpsTable.{video_parameter_set}
use Rattle.hevc_tables.specs.SpsTable.{sequence_parameter_set}
use Rattle.hevc_tables.specs.PpsTable.{picture_parameter_set}
use Rattle.hevc_tables.specs.SliceHeaderTable.{slice_segment_header}
use Rattle.hevc_elements.specs.declared.told.Told.{Told}
use Rattle.hevc_elements.specs.Telling.{told}
use Rattle.hevc_stream.specs.Kept.{Kept}
use Rattle.hevc_parser.specs.Slices.{active_of}

-- The elements of a unit with the sets that are kept: those of a video (32), sequence (33) or
-- picture parameter set (34), of a slice segment header, and none of another unit (table 7-1).
abbrev pub told_of_unit : Kept → FoundUnit UnitHeader → List Told
told_of_unit kept unit =
    let header = unit.header in
    let bits = payload (bytes_of unit) in
    if header.nal_unit_type == 32 then told video_parameter_set bits
    else if header.nal_unit_type == 33 then told sequence_parameter_set bits
    else if header.nal_unit_type == 34 then
    told (picture_parameter_set (header.nuh_temporal_id_plus1 - 1) kept.sequence_sets) bits
    else if is_slice header.nal_unit_type then
    told (slice_segment_header header.nal_unit_type (drop 2 (bytes_of unit)) (active_of kept)) bits
    else []
