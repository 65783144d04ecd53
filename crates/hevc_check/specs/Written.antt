-- What is written of a stream, and the status.
use Rattle.std.specs.Prelude.{ℕ, List, ◌++◌, codes, decimal, Result, Ok, Err}
use Rattle.hevc_stream.specs.Options.{default_options}
use Rattle.hevc_stream.specs.Stream.{meanings}
use Rattle.hevc_decoder.specs.declared.decoded.Refused.{Refused}
use Rattle.hevc_report.specs.Report.{ending_of, refusal_line}
use Rattle.hevc_check_laws.specs.Breaches.{Breach, Changed, Latency, SameCount, Full, Discards, Reorder}
use Rattle.hevc_check_laws.specs.Checks.{Checked, Yes, No}
use Rattle.hevc_program_answers.specs.Answers.{answering, Program}
use Rattle.hevc_check.specs.declared.table.Table.{Table}
use Rattle.hevc_check.specs.Tables.{checked_by}

abbrev pub breach_name : Breach → List ℕ
breach_name Changed = codes "Changed"
breach_name Latency = codes "Latency"
breach_name SameCount = codes "SameCount"
breach_name Full = codes "Full"
breach_name Discards = codes "Discards"
breach_name Reorder = codes "Reorder"

-- What is written where the stream is decoded whole, and the status: how many sequences and pictures
-- there are; or the picture that breaks something, the unit of its first slice, and what it breaks.
abbrev pub checked_answer : Checked → List ℕ × ℕ
checked_answer (Yes sequences pictures) = (
  codes "check yes sequences " ++ decimal sequences ++ codes " pictures " ++ decimal pictures
      ++ codes "\n",
  0,
)
checked_answer (No broken) = (
  codes "check no picture " ++ decimal broken.number ++ codes " unit " ++ decimal broken.unit
      ++ codes " " ++ breach_name broken.breach ++ codes "\n",
  7,
)

-- the same of any stream, by how it ends; 1 where it is refused
abbrev pub answered : Result ℕ Refused → Checked → List ℕ × ℕ
answered (Ok pictures) checked = checked_answer checked
answered (Err refused) checked = (refusal_line refused, 1)

abbrev pub answer_for : Table → List ℕ → List ℕ × ℕ
answer_for table stream =
    answered (ending_of default_options stream)
    (checked_by table (meanings default_options stream))

-- the checker, as a program, whose statuses are up to 7
abbrev pub check_program : Program Table
check_program =
    answering (λ table stream. (answer_for table stream).0)
    (λ table stream. (answer_for table stream).1) 7
