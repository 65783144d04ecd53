-- What is written of a stream, and the status.
use Rattle.std.specs.Prelude.{◌≡◌, ℕ, List, ◌++◌, codes, decimal, Option, Some, None}
use Rattle.hevc_spec.specs.Units.{units}
use Rattle.hevc_bits.specs.declared.header.UnitError.{UnitError}
use Rattle.hevc_bits.specs.declared.header.UnitError.TheVariants.{NoNal, TruncatedNalu, InvalidNaluType, TemporalIdZero}
use Rattle.hevc_program_answers.specs.Answers.{answering, Program}
use Rattle.hevc_extract.specs.Alike.{DecodesAlike, HoldsKept}
use Rattle.hevc_extract.specs.Extracting.{extracted, first_refused}
use Rattle.hevc_extract.specs.declared.words.Targets.{Targets}

-- why the header of a unit is refused: the name of the error of `extract`
abbrev pub cause_text : UnitError → List ℕ
cause_text NoNal = codes "NoNal"
cause_text TruncatedNalu = codes "TruncatedNalu"
cause_text (InvalidNaluType nal_unit_type) = codes "InvalidNaluType " ++ decimal nal_unit_type
cause_text TemporalIdZero = codes "TemporalIdZero"

-- the line of a refusal
abbrev pub refusal_line : ℕ → UnitError → List ℕ
refusal_line unit error =
    codes "refused unit " ++ decimal unit ++ codes " " ++ cause_text error ++ codes "\n"

-- the bytes that are extracted, or the line of the unit that is refused
abbrev pub bytes_or_line : List ℕ → Option (ℕ × UnitError) → List ℕ
bytes_or_line bytes None = bytes
bytes_or_line bytes (Some refused) = refusal_line refused.0 refused.1

abbrev pub written_of : Targets → List ℕ → List ℕ
written_of targets stream =
    bytes_or_line (extracted targets.highest_tid targets.highest_layer stream)
    (first_refused 0 (units stream))

-- 0, or 1 where a unit is refused
abbrev pub status_of : Option (ℕ × UnitError) → ℕ
status_of None = 0
status_of (Some refused) = 1

-- what is known of a stream of which no unit is refused: the kept units are found in the bytes that
-- are written, and are decoded as in the stream
abbrev pub HoldsAsAsked : Targets → List ℕ → Type 0
HoldsAsAsked targets stream =
    HoldsKept targets.highest_tid targets.highest_layer stream (written_of targets stream)
    × DecodesAlike targets.highest_tid targets.highest_layer stream (written_of targets stream)

-- the extractor, as a program, whose statuses with a text are 0 and 1
abbrev pub extract_program : Program Targets
extract_program =
    answering written_of (λ targets stream. status_of (first_refused 0 (units stream))) 1
