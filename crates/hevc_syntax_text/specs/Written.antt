-- What is written of a stream, and the status.
use Rattle.std.specs.Prelude.{ℕ, ◌+◌, ◌==◌, ◌&&◌, Bool, List, [], ◌∷◌, ◌++◌, length, codes, decimal}
use Rattle.std.specs.Prelude.{Option, Some, None, is_some, Result, Ok, Err, if◌then◌else◌}
use Rattle.hevc_spec.specs.Payload.{payload}
use Rattle.hevc_spec.specs.UnitHeader.{UnitHeader}
use Rattle.hevc_spec.specs.Units.{NalUnit, units}
use Rattle.hevc_bits.specs.ParsedHeader.{parsed_header}
use Rattle.hevc_bits.specs.declared.header.UnitError.{UnitError}
use Rattle.hevc_elements.specs.declared.told.Told.{Told}
use Rattle.hevc_element_lines.specs.declared.style.Style.{Style}
use Rattle.hevc_element_lines.specs.declared.style.Style.TheVariants.{Words, Json}
use Rattle.hevc_element_lines.specs.Lines.{element_lines, line_end}
use Rattle.hevc_parser.specs.Telling.{told_of_unit}
use Rattle.hevc_program_answers.specs.Answers.{answering, Program}
use Rattle.hevc_syntax_text.specs.declared.cause.Cause.{Cause}
use Rattle.hevc_syntax_text.specs.declared.cause.Cause.TheVariants.{Header}
use Rattle.hevc_syntax_text.specs.declared.variables.Variables.{Variables}
use Rattle.hevc_syntax_text.specs.declared.words.Request.{Request}
use Rattle.hevc_syntax_text.specs.Before.{Before, at_beginning, behind, found_in}
use Rattle.hevc_syntax_text.specs.Causes.{cause_of_unit}
use Rattle.hevc_syntax_text.specs.Fields.{number_field}
use Rattle.hevc_syntax_text.specs.Messages.{messages_text}
use Rattle.hevc_syntax_text.specs.Refusals.{refusal_line}
use Rattle.hevc_syntax_text.specs.Requests.{is_chosen}
use Rattle.hevc_syntax_text.specs.UnitLines.{unit_line}
use Rattle.hevc_syntax_text.specs.Variables.{variables_of_unit, variables_text}

-- ---- a unit

-- what is told of a unit, by its header, with what the units before it say: its elements, why it is
-- refused, if it is, and its variables
abbrev pub elements : Before → List ℕ → NalUnit → Result UnitHeader UnitError → List Told
elements before stream u (Ok header) = told_of_unit before.kept (found_in stream u header)
elements before stream u (Err error) = []

abbrev pub cause : Before → List ℕ → NalUnit → Result UnitHeader UnitError → Option Cause
cause before stream u (Ok header) = cause_of_unit before.kept (found_in stream u header)
cause before stream u (Err error) = Some (Header error)

abbrev pub variables : Before → List ℕ → NalUnit → Result UnitHeader UnitError → Option Variables
variables before stream u (Ok header) =
    variables_of_unit before.counting before.kept (found_in stream u header)
variables before stream u (Err error) = None

-- the lines of its messages, if it is supplemental enhancement information
abbrev pub messages : Style → NalUnit → Result UnitHeader UnitError → List ℕ
messages style u (Ok header) = messages_text style header.nal_unit_type u.bytes
messages style u (Err error) = []

-- the line of a refusal, if there is one
abbrev pub refusal_if_any : Style → List Bool → List Told → Option Cause → List ℕ
refusal_if_any style bits told None = []
refusal_if_any style bits told (Some cause) = refusal_line style bits told cause

-- The text of a unit of this number: its line, a line for each of its messages, elements and
-- variables, and that of its refusal.
unfoldable pub unit_text : Style → ℕ → Before → List ℕ → NalUnit → List ℕ
unit_text style number before stream u =
    let header = parsed_header u.bytes in
    let told = elements before stream u header in
    unit_line style number u header ++ messages style u header ++ element_lines style told
    ++ variables_text style (variables before stream u header)
    ++ refusal_if_any style (payload u.bytes) told (cause before stream u header)

-- the unit is refused
unfoldable pub is_refused : Before → List ℕ → NalUnit → Bool
is_refused before stream u = is_some (cause before stream u (parsed_header u.bytes))

-- ---- a stream

-- the text of a unit, if it is chosen
abbrev pub text_if_chosen : Request → ℕ → Before → List ℕ → NalUnit → List ℕ
text_if_chosen request number before stream u =
    if is_chosen request.chosen number u.bytes
    then unit_text request.style number before stream u
    else []

-- 1 where it is chosen and refused
abbrev pub count_if_chosen : Request → ℕ → Before → List ℕ → NalUnit → ℕ
count_if_chosen request number before stream u =
    if is_chosen request.chosen number u.bytes && is_refused before stream u then 1 else 0

-- the text of units of a stream from a number on, each with what those before it say
abbrev pub units_text : Request → ℕ → Before → List ℕ → List NalUnit → List ℕ
units_text request number before stream [] = []
units_text request number before stream (u ∷ us) =
    text_if_chosen request number before stream u
    ++ units_text request (number + 1) (behind before stream u) stream us

-- how many of those that are chosen are refused
abbrev pub num_refused : Request → ℕ → Before → List ℕ → List NalUnit → ℕ
num_refused request number before stream [] = 0
num_refused request number before stream (u ∷ us) =
    count_if_chosen request number before stream u
    + num_refused request (number + 1) (behind before stream u) stream us

abbrev pub before_units : Style → List ℕ
before_units Words = codes "end units "
before_units Json = codes "{\"units\":"

-- the last line: how many units there are, and how many of those that are chosen are refused
abbrev pub last_line : Style → ℕ → ℕ → List ℕ
last_line style count refused =
    before_units style ++ decimal count ++ number_field style (codes "refused") refused
    ++ line_end style

abbrev pub refused_in : Request → List ℕ → ℕ
refused_in request stream = num_refused request 0 at_beginning stream (units stream)

-- what is written of a stream
abbrev pub written_of : Request → List ℕ → List ℕ
written_of request stream =
    units_text request 0 at_beginning stream (units stream)
    ++ last_line request.style (length (units stream)) (refused_in request stream)

-- 0, or 1 where a unit that is chosen is refused
abbrev pub status_of : Request → List ℕ → ℕ
status_of request stream = if refused_in request stream == 0 then 0 else 1

-- the text of a stream's syntax, as a program, whose statuses with a text are 0 and 1
abbrev pub syntax_program : Program Request
syntax_program = answering written_of status_of 1
