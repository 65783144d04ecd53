-- The line of a refusal: the cause, and of an element that isn't allowed its name, its value and
-- its bounds.
use Rattle.std.specs.Prelude.{ℕ, ◌-◌, Bool, List, [], ◌∷◌, ◌++◌, codes, length, take, fold}
use Rattle.std.specs.Prelude.{Option, Some, None}
use Rattle.hevc_spec.specs.declared.Row.{Row}
use Rattle.hevc_bits.specs.declared.header.UnitError.{UnitError}
use Rattle.hevc_bits.specs.declared.header.UnitError.TheVariants as unit_errors
use Rattle.hevc_elements.specs.declared.told.Told.{Told}
use Rattle.hevc_element_names.specs.Names.{name_of, indices_of, bounds_of}
use Rattle.hevc_element_names.specs.Seen.{Sight, after, nothing_seen}
use Rattle.hevc_element_lines.specs.declared.style.Style.{Style}
use Rattle.hevc_element_lines.specs.declared.style.Style.TheVariants.{Words, Json}
use Rattle.hevc_element_lines.specs.Lines.{indices_text, line_end}
use Rattle.hevc_refused_element.specs.Refused.{refused_among}
use Rattle.hevc_syntax_text.specs.declared.cause.Cause.{Cause}
use Rattle.hevc_syntax_text.specs.declared.cause.Cause.TheVariants.{Header, OutOfBits, OutOfRange}
use Rattle.hevc_syntax_text.specs.declared.cause.Cause.TheVariants.{MissingSps, MissingPps}
use Rattle.hevc_syntax_text.specs.Fields.{number_field, signed_field, text_field}

-- ---- the cause

abbrev pub before_cause : Style → List ℕ
before_cause Words = codes "refused "
before_cause Json = codes "{\"refused\":\""

abbrev pub after_cause : Style → List ℕ
after_cause Words = []
after_cause Json = codes "\""

-- the name of a cause
unfoldable pub cause_name : Style → List ℕ → List ℕ
cause_name style name = before_cause style ++ name ++ after_cause style

abbrev pub header_cause : Style → UnitError → List ℕ
header_cause style unit_errors.NoNal = cause_name style (codes "NoNal")
header_cause style unit_errors.TruncatedNalu = cause_name style (codes "TruncatedNalu")
header_cause style (unit_errors.InvalidNaluType t) =
    cause_name style (codes "InvalidNaluType") ++ number_field style (codes "nal_unit_type") t
header_cause style unit_errors.TemporalIdZero = cause_name style (codes "TemporalIdZero")

-- the name of a cause and its numbers
abbrev pub cause_text : Style → Cause → List ℕ
cause_text style (Header error) = header_cause style error
cause_text style OutOfBits = cause_name style (codes "OutOfBits")
cause_text style (OutOfRange row) =
    cause_name style (codes "OutOfRange") ++ number_field style (codes "table") row.0
    ++ number_field style (codes "row") row.1
cause_text style (MissingSps id) =
    cause_name style (codes "MissingSps") ++ number_field style (codes "id") id
cause_text style (MissingPps id) =
    cause_name style (codes "MissingPps") ++ number_field style (codes "id") id

-- ---- the element

-- what was seen after elements
abbrev pub seen_after : List Told → Sight
seen_after told = fold after nothing_seen told

-- the name and the value of an element, which comes after others
unfoldable pub element_fields : Style → List Told → Told → List ℕ
element_fields style before told =
    let seen = seen_after before in
    text_field style (codes "name")
    (name_of seen told.row.0 told.row.1 ++ indices_text (indices_of seen told.row.0 told.row.1))
    ++ signed_field style (codes "value") told.value

-- of one, if there is one
abbrev pub fields_if_any : Style → List Told → Option Told → List ℕ
fields_if_any style before None = []
fields_if_any style before (Some told) = element_fields style before told

-- of the element of a row that is refused, if it has a value: it comes after all others
unfoldable pub refused_fields : Style → List Bool → List Told → Row → List ℕ
refused_fields style bits told row =
    fields_if_any style (take (length told - 1) told) (refused_among bits told row)

-- the bounds of a row, where it has some
abbrev pub bounds_field : Style → List ℕ → List ℕ
bounds_field style [] = []
bounds_field style (code ∷ more) = text_field style (codes "bounds") (code ∷ more)

-- what is said of an element that isn't allowed
abbrev pub details : Style → List Bool → List Told → Cause → List ℕ
details style bits told (OutOfRange row) =
    refused_fields style bits told row ++ bounds_field style (bounds_of row.0 row.1)
details style bits told other = []

-- the line, of a unit with these payload bits and these elements
abbrev pub refusal_line : Style → List Bool → List Told → Cause → List ℕ
refusal_line style bits told cause =
    cause_text style cause ++ details style bits told cause ++ line_end style
