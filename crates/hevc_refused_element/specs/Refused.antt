-- The element at which a unit is refused.
use Rattle.std.specs.Prelude.{ℕ, ◌-◌, ◌==◌, ◌&&◌, not, Bool, true, false, List, length, drop, fold}
use Rattle.std.specs.Prelude.{slice_get, Option, Some, None, if◌then◌else◌}
use Rattle.hevc_spec.specs.declared.Row.{Row}
use Rattle.hevc_spec.specs.Bits.{Found, found, out_of_bounds, ended, ue_at}
use Rattle.hevc_spec.specs.Payload.{payload}
use Rattle.hevc_spec.specs.UnitHeader.{UnitHeader}
use Rattle.hevc_bits.specs.FoundUnit.{FoundUnit, bytes_of}
use Rattle.hevc_elements.specs.declared.told.Told.{Told}
use Rattle.hevc_element_lines.specs.Lines.{place_after}
use Rattle.hevc_stream.specs.Kept.{Kept}
use Rattle.hevc_parser.specs.Telling.{told_of_unit}

-- the place after elements, in bits
abbrev pub place_behind : List Told → ℕ
place_behind told = fold place_after 16 told

abbrev pub is_out_of_bounds : Found → Bool
is_out_of_bounds out_of_bounds = true
is_out_of_bounds (found v rest) = false
is_out_of_bounds ended = false

-- An Exp-Golomb number above 2147483647 comes after the elements of a payload. It is refused
-- without a value, and isn't told.
abbrev pub comes_before_long : List Bool → List Told → Bool
comes_before_long bits told = is_out_of_bounds (ue_at (drop (place_behind told - 16) bits))

abbrev pub is_of_row : Row → Told → Bool
is_of_row row told = told.row.0 == row.0 && told.row.1 == row.1

-- The last element that was told of a payload is the one of a row that is refused: it is of that
-- row, and no number that is too long comes after it.
abbrev pub is_refused : List Bool → List Told → Row → Told → Bool
is_refused bits told row last = is_of_row row last && not (comes_before_long bits told)

-- an element, if there is one and it holds
abbrev pub if_holds : (Told → Bool) → Option Told → Option Told
if_holds holds None = None
if_holds holds (Some told) = if holds told then Some told else None

-- The element of a row that is refused, of a payload of which these elements were told. A condition
-- has no element, and a number that is too long no value.
unfoldable pub refused_among : List Bool → List Told → Row → Option Told
refused_among bits told row =
    if_holds (is_refused bits told row) (slice_get told (length told - 1))

-- the same of a unit, with the sets that are kept
abbrev pub refused_in : Kept → FoundUnit UnitHeader → Row → Option Told
refused_in kept unit row = refused_among (payload (bytes_of unit)) (told_of_unit kept unit) row
