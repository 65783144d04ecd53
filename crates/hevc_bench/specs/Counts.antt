-- What is counted in a stream, and the line of it.
use Rattle.std.specs.Prelude.{ℕ, ◌+◌, List, [], ◌∷◌, ◌++◌, length, codes, decimal, Option, Some, None, Result, Ok, Err, is_ok, if◌then◌else◌}
use Rattle.hevc_spec.specs.Units.{NalUnit, units}
use Rattle.hevc_spec.specs.UnitHeader.{unit_header}
use Rattle.hevc_walk.specs.Refusals.{Refusal}
use Rattle.hevc_walk.specs.Results.{verdict}
use Rattle.hevc_stream.specs.Options.{default_options}
use Rattle.hevc_stream.specs.Stream.{meanings}
use Rattle.hevc_driver.specs.declared.decode_error.DecodeError.{DecodeError}
use Rattle.hevc_driver.specs.declared.decode_error.DecodeError.TheVariants as errors
use Rattle.hevc_decoder.specs.declared.decoded.Refused as decoded
use Rattle.hevc_program_answers.specs.Answers.{answering, Program}
use Rattle.hevc_bench.specs.declared.work.Work.{Work}
use Rattle.hevc_bench.specs.declared.work.Work.TheVariants.{Decode, Cut, Read}
use Rattle.hevc_bench.specs.declared.count.Count.{Count}
use Rattle.hevc_bench.specs.declared.count.Count.TheVariants.{Pictures, Units, Bytes, Refused}

-- the pictures of a stream with this verdict, or the unit that stops it
abbrev pub count_of_pictures : Result ℕ Refusal → Count
count_of_pictures (Ok pictures) = Pictures pictures
count_of_pictures (Err refusal) = Refused refusal.unit

-- what an answer to decoding tells of, unless an allocation failed
abbrev pub count_of_refusal : DecodeError → ℕ → Option Count
count_of_refusal errors.NoMemory unit = None
count_of_refusal error unit = Some (Refused unit)

abbrev pub count_of_answer : Result ℕ decoded.Refused → Option Count
count_of_answer (Ok pictures) = Some (Pictures pictures)
count_of_answer (Err refused) = count_of_refusal refused.error refused.unit

-- the units after so many, or the first of them that has no header (7.3.1.2)
abbrev pub count_of_units : ℕ → List NalUnit → Count
count_of_units number [] = Units number
count_of_units number (unit ∷ units) =
    if is_ok (unit_header unit.bytes) then count_of_units (number + 1) units else Refused number

-- what the work finds in a stream
abbrev pub count_of : Work → List ℕ → Count
count_of Decode stream = count_of_pictures (verdict (meanings default_options stream))
count_of Cut stream = count_of_units 0 (units stream)
count_of Read stream = Bytes (length stream)

-- the line of a count
abbrev pub line_of : Count → List ℕ
line_of (Pictures number) = codes "pictures " ++ decimal number ++ codes "\n"
line_of (Units number) = codes "units " ++ decimal number ++ codes "\n"
line_of (Bytes number) = codes "bytes " ++ decimal number ++ codes "\n"
line_of (Refused unit) = codes "refused unit " ++ decimal unit ++ codes "\n"

-- 0, or 1 where a unit was refused
abbrev pub status_of : Count → ℕ
status_of (Pictures number) = 0
status_of (Units number) = 0
status_of (Bytes number) = 0
status_of (Refused unit) = 1

-- the counting, as a program, whose statuses with a line are 0 and 1
abbrev pub bench_program : Program Work
bench_program =
    answering (λ work stream. line_of (count_of work stream))
    (λ work stream. status_of (count_of work stream)) 1
