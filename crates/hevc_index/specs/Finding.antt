-- How the points of a stream are found, as a decoder takes its units.
use Rattle.std.specs.Prelude.{◌≡◌, ℕ, Bool, ◌&&◌, ◌||◌, ◌==◌, List, [], find, if◌then◌else◌, Option, Some, None, Ok}
use Rattle.std.specs.Option.{option_map}
use Rattle.hevc_spec.specs.UnitHeader.{UnitHeader, unit_header}
use Rattle.hevc_spec.specs.UnitTypes.{is_idr, is_bla}
use Rattle.hevc_spec.specs.Units.{NalUnit, units}
use Rattle.hevc_walk.specs.Pictures.{Head}
use Rattle.hevc_walk_units.specs.Units.{Standing, open_head}
use Rattle.hevc_stream.specs.Options.{default_options}
use Rattle.hevc_backend.specs.declared.call.Call.{Call}
use Rattle.hevc_backend.specs.Handed.{Handed}
use Rattle.hevc_backend.specs.Trait.{Counts, Frames}
use Rattle.hevc_stateless.specs.declared.decoder.StatelessDecoder.{StatelessDecoder}
use Rattle.hevc_decoder.specs.Stepping.{StandsIn}
use Rattle.hevc_index_laws.specs.Points.{PlainPoint}

-- Decoding can start with a picture: it is an IDR or BLA picture of temporal id 0. Such a picture
-- can be prevTid0Pic exactly where its temporal id is 0 (8.3.1).
abbrev pub is_start : Head → Bool
is_start p = (is_idr p.nal_unit_type || is_bla p.nal_unit_type) && p.valid_for_prev_tid0

-- what is told of a picture that begins with unit k, at this place
abbrev pub point_of : (k offset : ℕ) → Head → PlainPoint
point_of k offset p = record {
  number = p.number;
  unit = k;
  offset = offset;
  nal_unit_type = p.nal_unit_type;
  order_count = p.order_count;
}

abbrev pub point_by : (k offset : ℕ) → Option Head → Option PlainPoint
point_by k offset None = None
point_by k offset (Some p) = if is_start p then Some (point_of k offset p) else None

-- The point that began with unit k, if one did: so many pictures had begun before it, and after it
-- this is.
abbrev pub point_begun : (before k offset : ℕ) → Standing → Option PlainPoint
point_begun before k offset s =
    if s.next.number == before then None else point_by k offset (open_head s.current)

-- the unit of the point that has a number
abbrev pub numbered_unit : ℕ → List PlainPoint → Option ℕ
numbered_unit number points = option_map (λ p. p.unit) (find (λ p. p.number == number) points)

-- a decoder that was made over a backend that never fails is before the first unit of a stream
abbrev pub StandsFirst : {B H P : Type 0} → (log : B → Option (List (Call H)))
    → (handed : B → Option (List Handed)) → (frames : B → Frames) → (counts : B → Counts)
    → (is_faultless : B → Type 0)
    → List ℕ → StatelessDecoder B H P → Type 0
StandsFirst {B} log handed frames counts is_faultless stream decoder =
    (backend : B)
    × StandsIn log handed frames counts is_faultless default_options stream 0 (units stream)
    backend []
    decoder
    × is_faultless backend

-- the header of a unit isn't refused
abbrev pub IsHeaded : NalUnit → Type 0
IsHeaded u = (header : UnitHeader) × (unit_header u.bytes ≡ Ok header)
