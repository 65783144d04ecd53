-- A stream that is told unit by unit.
use Rattle.std.specs.Prelude.{◌≡◌, ℕ, ◌+◌, ◌<◌, ◌≤◌, Bool, List, [], ◌∷◌, ◌++◌, length, Option}
use Rattle.std.specs.Prelude.{Some}
use Rattle.std.specs.Prelude.{None, Err, is_some, if◌then◌else◌}
use Rattle.std.specs.Io.KnownBytes.{Appends}
use Rattle.hevc_spec.specs.Units.{NalUnit, kept_bytes, units_from}
use Rattle.hevc_bits.specs.ParsedHeader.{parsed_header}
use Rattle.hevc_bits.specs.declared.header.UnitError.{UnitError}
use Rattle.hevc_elements.specs.declared.told.Told.{Told}
use Rattle.hevc_syntax_text.specs.declared.stream.StreamText.{StreamText}
use Rattle.hevc_syntax_text.specs.declared.cause.Cause.{Cause}
use Rattle.hevc_syntax_text.specs.Before.{behind}
use Rattle.hevc_syntax_text.specs.Standing.{before_of, AreAlike}
use Rattle.hevc_syntax_text.specs.Written.{text_if_chosen, count_if_chosen, refusal_if_any}

-- a unit of a stream was taken
pub record TakesUnit (stream : List ℕ) (u : NalUnit) (old new : StreamText) : Type 0 where
  pub bytes : new.bytes.items ≡ old.bytes.items
      ++ text_if_chosen old.request old.units (before_of old.sets) stream u
  pub units : new.units ≡ old.units + 1
  pub refused : new.refused ≡ old.refused
      + count_if_chosen old.request old.units (before_of old.sets) stream u
  pub behind : before_of new.sets ≡ behind (before_of old.sets) stream u
  pub alike : AreAlike new.sets
  pub request : new.request ≡ old.request

-- the next unit of a stream was taken, and the others are from this place on
pub record TakesNext (stream : List ℕ) (position next : ℕ) (old new : StreamText) : Type 0 where
  pub unit : NalUnit
  pub first : units_from kept_bytes position stream ≡ unit ∷ units_from kept_bytes next stream
  pub ahead : position < next
  pub within : next ≤ length stream
  pub takes : TakesUnit stream unit old new

abbrev pub TakesNextIfAny : List ℕ → ℕ → Option ℕ → StreamText → StreamText → Type 0
TakesNextIfAny stream position None old new =
    (units_from kept_bytes position stream ≡ []) × (new ≡ old)
TakesNextIfAny stream position (Some next) old new = TakesNext stream position next old new

-- what is counted fits: no more units are refused than there are, and one more can be counted
pub record Fits (text : StreamText) : Type 0 where
  pub few : text.units < 18446744073709551615
  pub refused : text.refused ≤ text.units

-- the refusal of a unit was added, if it is refused, and the unit was counted
pub record EndsUnit (bits : List Bool) (told : List Told) (cause : Option Cause)
    (old new : StreamText) : Type 0 where
  pub bytes : new.bytes.items
      ≡ old.bytes.items ++ refusal_if_any old.request.style bits told cause
  pub units : new.units ≡ old.units + 1
  pub refused : new.refused ≡ old.refused + (if is_some cause then 1 else 0)
  pub sets : new.sets ≡ old.sets
  pub request : new.request ≡ old.request

-- the next unit of a stream has a header that is refused for this error
abbrev pub IsRefusedNext : ℕ → List ℕ → UnitError → Type 0
IsRefusedNext position stream error =
    (u : NalUnit) × (others : List NalUnit)
    × (units_from kept_bytes position stream ≡ u ∷ others) × (parsed_header u.bytes ≡ Err error)

-- known bytes grew by a front of a text, and the rest of it is left
abbrev pub Passes : Option (List ℕ) → Option (List ℕ) → (text rest : List ℕ) → Type 0
Passes old new text rest = (front : List ℕ) × Appends old new front × (front ++ rest ≡ text)

-- all but the text that isn't written yet is the same
pub record HasSameStanding (old new : StreamText) : Type 0 where
  pub units : new.units ≡ old.units
  pub refused : new.refused ≡ old.refused
  pub sets : new.sets ≡ old.sets
  pub request : new.request ≡ old.request
