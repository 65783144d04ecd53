-- The bytes that give a unit again.
use Rattle.std.specs.Prelude.{◌≡◌, ℕ, ◌<◌, Bool, false, List, [], ◌∷◌, length, drop, Result}
use Rattle.std.specs.Prelude.{Ok, Err}
use Rattle.hevc_spec.specs.UnitHeader.{UnitHeader, HeaderFault, unit_header}
use Rattle.hevc_spec.specs.Units.{units}
use Rattle.hevc_stream.specs.Options.{Options}
use Rattle.hevc_stream.specs.Contents.{wants}
use Rattle.hevc_bits.specs.declared.stream_limit.TheConstants.{STREAM_LIMIT}

-- a stream that has one unit, of a picture set, directly after its first three bytes
pub record IsPictureSetStream (stream : List ℕ) : Type 0 where
  pub one : units stream ≡ record { offset = 3; bytes = drop 3 stream } ∷ []
  pub header : UnitHeader
  pub parsed : unit_header (drop 3 stream) ≡ Ok header
  pub typed : header.nal_unit_type ≡ 34
  pub short : length stream < STREAM_LIMIT

-- a header that isn't refused is of a sub-layer and a layer that are wanted
abbrev pub is_wanted_header : Options → Result UnitHeader HeaderFault → Bool
is_wanted_header options (Ok header) = wants options header
is_wanted_header options (Err fault) = false

-- bytes are a unit of a sub-layer and a layer that are wanted (8.1.2)
abbrev pub is_wanted : Options → List ℕ → Bool
is_wanted options bytes = is_wanted_header options (unit_header bytes)
