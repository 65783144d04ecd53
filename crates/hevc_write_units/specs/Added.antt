-- A unit that was added to a stream, and why none was.
use Rattle.std.specs.Prelude.{◌≡◌, ◌≢◌, ◌<◌, ℕ, List, [], ◌∷◌, ◌++◌, drop, slice_index, Ok}
use Rattle.hevc_spec.specs.Lines.{Line}
use Rattle.hevc_spec.specs.Payload.{payload_after}
use Rattle.hevc_spec.specs.UnitHeader.{UnitHeader, unit_header}
use Rattle.hevc_spec.specs.Units.{units, before_start_code}
use Rattle.hevc_bit_writer.specs.WrittenUnits.{escaped, started}
use Rattle.hevc_write_units.specs.declared.error.WriteError.{WriteError}
use Rattle.hevc_write_units.specs.declared.error.WriteError.TheVariants.{NotFormed, ZeroEnd}
use Rattle.hevc_write_units.specs.declared.error.WriteError.TheVariants.{NoMemory}
use Rattle.hevc_write_units.specs.Payloads.{IsPayload, EndsInZero}

-- The two bytes are those of the header (7.3.1.2), with forbidden_zero_bit 0.
pub record AreHeaderBytes (header : UnitHeader) (bytes : List ℕ) : Type 0 where
  pub first : ℕ
  pub second : ℕ
  pub are : bytes ≡ first ∷ second ∷ []
  pub zero_bit : first < 128
  pub some : second ≢ 0
  pub parsed : (payload : List ℕ) → unit_header (first ∷ second ∷ payload) ≡ Ok header

-- The bytes are a unit's as 7.3.1.1 and 7.3.1.2 have them: forbidden_zero_bit is 0, and after the
-- two bytes of the header there is a 03 before each byte of at most 3 that would come directly after
-- two zero bytes, and before no other.
pub record AreUnitBytes (bytes : List ℕ) : Type 0 where
  pub zero_bit : slice_index bytes 0 < 128
  pub escapes : drop 2 bytes ≡ escaped (payload_after 0 (drop 2 bytes))

-- A stream grew by a unit with this header: these bytes after 00 00 01.
pub record AddsUnit (header : UnitHeader) (HasLines : List Line → Type 0) (body : List ℕ)
    (Means : List ℕ → Type 0) (old new : List ℕ) : Type 0 where
  pub bytes : List ℕ
  pub parts : new ≡ old ++ started bytes
  pub are : AreUnitBytes bytes
  -- what was added has this unit alone, and the unit has no start code in it
  pub found : units (started bytes) ≡ record { offset = 3; bytes = bytes } ∷ []
  pub whole : before_start_code bytes ≡ bytes
  pub header_is : unit_header bytes ≡ Ok header
  -- its payload, without the 03 bytes, is the value's
  pub payload : IsPayload HasLines body (payload_after 0 (drop 2 bytes))
  pub meant : Means bytes

-- Why no payload is written: no lines of the value are allowed; or some are, and the body isn't
-- empty and ends in 00; or an allocation fails.
abbrev pub IsRefused : WriteError → (List Line → Type 0) → List ℕ → Type 0
IsRefused NotFormed HasLines body = (lines : List Line) → ¬ (HasLines lines)
IsRefused ZeroEnd HasLines body = EndsInZero body × ((lines : List Line) × HasLines lines)
IsRefused NoMemory HasLines body = Unit {0}
