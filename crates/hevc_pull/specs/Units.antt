-- What is told of the units of a stream.
use Rattle.std.specs.Prelude.{◌≡◌, ◌≢◌, ◌⊎◌, ◌↔◌, ℕ, ◌+◌, ◌-◌, ◌<◌, ◌≤◌, List, [], ◌∷◌, length}
use Rattle.std.specs.Prelude.{Result, Ok, Err, IfOk, IfErr}
use Rattle.hevc_spec.specs.Units.{NalUnit, kept_bytes, units_from}
use Rattle.hevc_spec.specs.UnitHeader.{UnitHeader, HeaderFault, unit_header}
use Rattle.hevc_stream.specs.Contents.{header_cause}
use Rattle.hevc_bits.specs.FoundUnit.{FoundUnit, unit_of}
use Rattle.hevc_bits.specs.ParsedHeader.{parsed_header}
use Rattle.hevc_bits.specs.declared.header.UnitError.{UnitError}
use Rattle.hevc_bits.specs.declared.header.UnitError.TheVariants.{NoNal}
use Rattle.hevc_driver.specs.declared.decode_error.DecodeError.{DecodeError}
use Rattle.hevc_driver.specs.Errors.{cause_error}
use Rattle.hevc_pull.specs.declared.extent.Extent.{Extent}
use Rattle.hevc_pull.specs.declared.units.UnitCall.{UnitCall}
use Rattle.hevc_pull.specs.Extents.{extent_of, no_extent}
use Rattle.hevc_pull.specs.Status.{row_of, status_of, table_of}

-- a unit that lies here, and nothing else of it
abbrev pub lying : Extent → UnitCall
lying e = record {
  offset = e.offset;
  size = e.size;
  next = e.next;
  nal_unit_type = 0;
  layer_id = 0;
  temporal_id = 0;
  table = 0;
  row = 0;
}

-- with what its header says (7.3.1.2)
abbrev pub with_header : UnitHeader → UnitCall → UnitCall
with_header h told = record told {
  nal_unit_type = h.nal_unit_type;
  layer_id = h.nuh_layer_id;
  temporal_id = h.nuh_temporal_id_plus1 - 1;
}

-- with what goes with an error
abbrev pub with_error : DecodeError → UnitCall → UnitCall
with_error error told = record told { table = table_of error; row = row_of error }

-- why a header is refused
abbrev pub fault_error : HeaderFault → DecodeError
fault_error fault = cause_error (header_cause fault)

abbrev pub told_header : Result UnitHeader HeaderFault → UnitCall → UnitCall
told_header (Ok header) told = with_header header told
told_header (Err fault) told = with_error (fault_error fault) told

abbrev pub status_of_header : Result UnitHeader HeaderFault → ℕ
status_of_header (Ok header) = 0
status_of_header (Err fault) = status_of (fault_error fault)

-- the first of these units: where it lies, whatever its header is, and its header or why that is
-- refused
abbrev pub told_first : List NalUnit → UnitCall
told_first [] = lying no_extent
told_first (u ∷ others) = told_header (unit_header u.bytes) (lying (extent_of u))

abbrev pub status_of_first : List NalUnit → ℕ
status_of_first [] = 1
status_of_first (u ∷ others) = status_of_header (unit_header u.bytes)

-- what is told of a unit that was found
abbrev pub told_unit : FoundUnit UnitHeader → UnitCall
told_unit u = with_header u.header (lying (extent_of (unit_of u)))

-- all units after the first one are those from this place on
abbrev pub GoesOnAt : (next : ℕ) → List NalUnit → List ℕ → Type 0
GoesOnAt next [] bytes = Unit {0}
GoesOnAt next (u ∷ others) bytes = others ≡ units_from kept_bytes next bytes

-- The first unit from a place on is told, and where the others are.
pub record Finds (bytes : List ℕ) (from : ℕ) (told : UnitCall) (status : ℕ) : Type 0 where
  pub within : from ≤ length bytes
  pub told_is : told ≡ told_first (units_from kept_bytes from bytes)
  pub status_is : status ≡ status_of_first (units_from kept_bytes from bytes)
  pub goes_on : GoesOnAt told.next (units_from kept_bytes from bytes) bytes

-- A place that isn't among the bytes leaves all as it was.
abbrev pub FindsUnit : (bytes : List ℕ) → (from : ℕ) → (old new : UnitCall) → (status : ℕ) → Type 0
FindsUnit bytes from old new status =
    Finds bytes from new status ⊎ ((length bytes < from) × (status ≡ 17) × (new ≡ old))

-- The answer is the first unit from a place on, or why there is none: no unit is there, or its header
-- is refused (7.3.1.2).
pub record IsFirstFrom (from : ℕ) (bytes : List ℕ) (answer : Result (FoundUnit UnitHeader) UnitError)
    : Type 0 where
  pub first : IfOk answer (λ u.
      units_from kept_bytes from bytes
      ≡ unit_of u ∷ units_from kept_bytes (u.offset + u.size) bytes)
  pub header : IfOk answer (λ u. unit_header (unit_of u).bytes ≡ Ok u.header)
  pub inside : IfOk answer (λ u. u.offset + u.size ≤ length bytes)
  pub none : (answer ≡ Err NoNal) ↔ (units_from kept_bytes from bytes ≡ [])
  pub refused : IfErr answer (λ error.
      error ≢ NoNal
      → (u : NalUnit) × (others : List NalUnit)
      × (units_from kept_bytes from bytes ≡ u ∷ others)
      × (parsed_header u.bytes ≡ Err error))
