-- The units of a stream up to a temporal sub-layer and a layer (clause 10, but that all SEI units of
-- these stay).
use Rattle.std.specs.Prelude.{◌≡◌, ℕ, ◌+◌, Bool, false, List, [], ◌∷◌, filter, map, Option}
use Rattle.std.specs.Prelude.{Some, None, Result, Ok, Err, if◌then◌else◌}
use Rattle.hevc_spec.specs.UnitHeader.{UnitHeader, HeaderFault, unit_header}
use Rattle.hevc_spec.specs.Units.{NalUnit, units}
use Rattle.hevc_bits.specs.declared.header.UnitError.{UnitError}
use Rattle.hevc_bits.specs.ParsedHeader.{parsed_header}
use Rattle.hevc_bit_writer.specs.WrittenUnits.{stream_of}
use Rattle.hevc_stream.specs.Contents.{wants}
use Rattle.hevc_stream.specs.Options.{Options}
use Rattle.hevc_extract.specs.declared.extraction.ExtractError.{ExtractError}
use Rattle.hevc_extract.specs.declared.extraction.ExtractError.TheVariants.{Refused, NoMemory}
use Rattle.hevc_extract.specs.declared.extraction.Kept.{Kept}

-- sub-layers and layers up to these are wanted (8.1.2)
abbrev pub up_to : ℕ → ℕ → Options
up_to highest_tid highest_layer = record {
  handle_cra_as_bla = false;
  highest_tid = highest_tid;
  highest_layer = highest_layer;
}

-- a unit is kept where it is wanted (clause 10), and not where its header is faulty
abbrev pub is_kept_by : ℕ → ℕ → Result UnitHeader HeaderFault → Bool
is_kept_by highest_tid highest_layer (Ok header) = wants (up_to highest_tid highest_layer) header
is_kept_by highest_tid highest_layer (Err fault) = false

abbrev pub is_kept : ℕ → ℕ → NalUnit → Bool
is_kept highest_tid highest_layer unit =
    is_kept_by highest_tid highest_layer (unit_header unit.bytes)

-- the units that are kept, in order
abbrev pub kept_units : ℕ → ℕ → List NalUnit → List NalUnit
kept_units highest_tid highest_layer us = filter (is_kept highest_tid highest_layer) us

abbrev pub bytes_of_all : List NalUnit → List (List ℕ)
bytes_of_all us = map (λ u. u.bytes) us

-- the bytes that are extracted: each kept unit after 00 00 01
abbrev pub extracted : ℕ → ℕ → List ℕ → List ℕ
extracted highest_tid highest_layer stream =
    stream_of (bytes_of_all (kept_units highest_tid highest_layer (units stream)))

-- a unit that is refused comes before later ones
abbrev pub refused_or : ℕ → Option (ℕ × UnitError) → Result UnitHeader UnitError
    → Option (ℕ × UnitError)
refused_or number later (Ok header) = later
refused_or number later (Err error) = Some (number, error)

-- the first unit whose header is refused (7.3.1.2), by its number, and why, where so many units
-- come before the list
abbrev pub first_refused : ℕ → List NalUnit → Option (ℕ × UnitError)
first_refused number [] = None
first_refused number (u ∷ us) =
    refused_or number (first_refused (number + 1) us) (parsed_header u.bytes)

-- the answer names that unit, and there is one exactly then, unless an allocation fails
abbrev pub TellsRefusal : Result Kept ExtractError → Option (ℕ × UnitError) → Type 0
TellsRefusal (Ok kept) first = first ≡ None
TellsRefusal (Err (Refused unit error)) first = first ≡ Some (unit, error)
TellsRefusal (Err NoMemory) first = Unit {0}

-- one more unit, which is kept or dropped
abbrev pub counted : Bool → Kept → Kept
counted keeps kept =
    if keeps then record kept { units = kept.units + 1 }
    else record kept { dropped = kept.dropped + 1 }
