-- What is read of the units of a stream: the sequence parameter sets, the slice segments, each with
-- its parameter sets and its whole header; and what comes with each unit.
use Rattle.std.specs.Prelude.{ℕ, List, [], ◌∷◌, take, get_or, Option, None}
use Rattle.std.specs.List.{flat_map}
use Rattle.hevc_spec.specs.Units.{NalUnit, units}
use Rattle.hevc_records.specs.SliceHeader.{PlainSliceSegmentHeader}
use Rattle.hevc_walk.specs.Meanings.{Meaning, Other}
use Rattle.hevc_walk.specs.Pictures.{stream}
use Rattle.hevc_walk.specs.Walk as walk
use Rattle.hevc_walk_agree.specs.Standings.{standing}
use Rattle.hevc_stream.specs.Options.{Options}
use Rattle.hevc_stream.specs.Kept.{Kept, none_kept}
use Rattle.hevc_stream.specs.Stream.{meaning, kept_behind}
use Rattle.hevc_backend.specs.Handed.{Handed}
use Rattle.hevc_driver.specs.Given.{Given, handed_by}
use Rattle.hevc_stateless.specs.Segments.{ReadUnit, nothing_read, latest_at, own_header, read_at}
use Rattle.hevc_stateless.specs.Segments.{given_with}

-- the latest independent header (7.4.7.1) after a unit of these bytes
abbrev pub latest_behind_unit : Options → Kept → (latest : Option PlainSliceSegmentHeader)
    → (bytes : List ℕ) → Option PlainSliceSegmentHeader
latest_behind_unit options kept latest bytes =
    latest_at (meaning options kept bytes) (own_header options kept bytes) latest

-- and after some units
abbrev pub latest_from : Options → Kept → (latest : Option PlainSliceSegmentHeader) → List NalUnit
    → Option PlainSliceSegmentHeader
latest_from options kept latest [] = latest
latest_from options kept latest (u ∷ us) =
    latest_from options (kept_behind options kept u.bytes)
    (latest_behind_unit options kept latest u.bytes) us

abbrev pub latest_after : Options → List NalUnit → Option PlainSliceSegmentHeader
latest_after options us = latest_from options none_kept None us

-- what was read of each unit, after these sets and this latest header
abbrev pub read_units_from : Options → Kept → (latest : Option PlainSliceSegmentHeader)
    → List NalUnit → List ReadUnit
read_units_from options kept latest [] = []
read_units_from options kept latest (u ∷ us) =
    read_at options kept latest u.bytes
    ∷ read_units_from options (kept_behind options kept u.bytes)
    (latest_behind_unit options kept latest u.bytes) us

abbrev pub read_units_of : Options → List NalUnit → List ReadUnit
read_units_of options us = read_units_from options none_kept None us

-- of each unit of a stream
abbrev pub read_units : Options → List ℕ → List ReadUnit
read_units options stream = read_units_of options (units stream)

-- what comes with the k-th unit of these meanings, of which this was read, at no time
abbrev pub given_of : List Meaning → List ReadUnit → (k : ℕ) → Given
given_of ms reads k =
    given_with 0 (get_or ms k Other) (get_or reads k nothing_read) (standing (stream (take k ms)))

-- what comes with these calls, each of its unit
abbrev pub handed_over : List Meaning → List ReadUnit → List (ℕ × walk.Call) → List Handed
handed_over ms reads calls = flat_map (λ c. handed_by (given_of ms reads c.0) c.1) calls
