-- Units that are added to a stream.
use Rattle.std.specs.Prelude.{◌≡◌, ℕ, List, []}
use Rattle.hevc_spec.specs.Lines.{Line}
use Rattle.hevc_spec.specs.UnitHeader.{UnitHeader}
use Rattle.hevc_write_units.specs.Added.{AddsUnit}

-- of a sequence set, or of a picture set
abbrev pub header_of : (nal_unit_type : ℕ) → UnitHeader
header_of nal_unit_type = record {
  nal_unit_type = nal_unit_type;
  nuh_layer_id = 0;
  nuh_temporal_id_plus1 = 1;
}

-- a value without lines
abbrev pub NoLines : List Line → Type 0
NoLines lines = lines ≡ []

-- what any bytes mean, and none
abbrev pub AnyMeaning : List ℕ → Type 0
AnyMeaning bytes = Unit {0}

abbrev pub NoMeaning : List ℕ → Type 0
NoMeaning bytes = ⊥

-- an empty stream grew by these bytes, as a sequence set's unit of a value without lines, with
-- bytes after them
abbrev pub Adds : (body added : List ℕ) → Type 0
Adds body added = AddsUnit (header_of 33) NoLines body AnyMeaning [] added
