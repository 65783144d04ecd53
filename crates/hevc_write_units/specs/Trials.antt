-- Bits that are tried: as the payload of the one unit of a stream, which is read back.
use Rattle.std.specs.Prelude.{◌≡◌, ◌<◌, ℕ, Bool, List, [], ◌∷◌, length, Ok}
use Rattle.hevc_spec.specs.Payload.{payload}
use Rattle.hevc_spec.specs.Table.{Table, read, gives}
use Rattle.hevc_spec.specs.UnitHeader.{UnitHeader, unit_header}
use Rattle.hevc_spec.specs.Units.{units}
use Rattle.hevc_bit_writer.specs.WrittenUnits.{started}
use Rattle.hevc_bits.specs.declared.stream_limit.TheConstants.{STREAM_LIMIT}
use Rattle.hevc_write_elements.specs.Filling.{WritesTable}
use Rattle.hevc_write_units.specs.Payloads.{with_trailing_bits}

-- The stream has one unit, with this header and these payload bits.
pub record IsTrial (header : UnitHeader) (bits : List Bool) (stream : List ℕ) : Type 0 where
  pub bytes : List ℕ
  pub is : stream ≡ started bytes
  pub found : units stream ≡ record { offset = 3; bytes = bytes } ∷ []
  pub header_is : unit_header bytes ≡ Ok header
  pub payload_is : payload bytes ≡ bits
  pub short : length stream < STREAM_LIMIT

-- bits are others up to a whole byte
abbrev pub IsWhole : List Bool → Type 0
IsWhole bits = (front : List Bool) × (bits ≡ with_trailing_bits front)

-- what was written for a record, up to a whole byte
pub record WritesWhole {A : Type 0} (t : Table A) (x : A) (bits : List Bool) : Type 0 where
  pub front : List Bool
  pub written : WritesTable t x [] front
  pub whole : bits ≡ with_trailing_bits front

-- bits are read as a record
abbrev pub IsReadAs : {A : Type 0} → Table A → A → List Bool → Type 0
IsReadAs t x bits = (rest : List Bool) × (read t bits ≡ gives x rest)
