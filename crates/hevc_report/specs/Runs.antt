-- What a run of the program does, by the words of its command line.
use Rattle.std.specs.Prelude.{◌≡◌, ◌≤◌, ◌<◌, ◌==◌, ◌⊎◌, ℕ, List, length, IfSome}
use Rattle.std.specs.declared.option.Option.{Option}
use Rattle.std.specs.declared.option.Option.TheVariants.{None, Some}
use Rattle.std.specs.Io.KnownBytes.{Appends}
use Rattle.hevc_fault_counts.specs.Faults.{Rose}
use Rattle.hevc_walk.specs.Clean.{IsClean}
use Rattle.hevc_stream.specs.Options.{Options, default_options}
use Rattle.hevc_stream.specs.Stream.{meanings}
use Rattle.hevc_stream_maker.specs.Made.{made}
use Rattle.hevc_io.specs.Prefix.{AppendsLess, AppendsPrefix}
use Rattle.hevc_program_answers.specs.Answers.{Answers, Ends, Moment, Program}
use Rattle.hevc_report.specs.Command.{command, pictures_to_make}
use Rattle.hevc_report.specs.Report.{ending_of, report_of}
use Rattle.hevc_report.specs.Status.{status_of, IsDone, IsMade}
use Rattle.hevc_report.specs.Summary.{summary_of}
use Rattle.hevc_report.specs.Tells.{Tells}

-- the report, as a program
abbrev pub report_program : Program Options
report_program = record {
  text = report_of;
  status = λ options stream. status_of (ending_of options stream);
  IsAnswer = λ status. status ≤ 1;
  IsDone = IsDone;
}

-- Where the words ask for a report with these options, or for nothing.
pub record Reports {S K : Type 0} (ends : Ends S K) (limit : ℕ) (asked : Option Options)
    (old new : Moment S K) (status : ℕ) : Type 0 where
  -- what is read and written, by the status
  pub answers : Answers ends report_program limit asked old new status
  -- on 0 and 1 the status tells of the stream
  pub tells : IfSome asked (λ options. status ≤ 1 → IfSome (ends.left old.source) (λ stream.
      Tells limit options stream (status == 0)))
  -- a clean stream within the limit is decoded unless an end or an allocation fails
  pub clean : IfSome asked (λ options. (stream : List ℕ) → ends.left old.source ≡ Some stream
      → length stream ≤ limit → IsClean (meanings options stream)
      → ¬ (Rose (ends.failed_reads old.source) (ends.failed_reads new.source))
      → ¬ (Rose (ends.failed_writes old.sink) (ends.failed_writes new.sink))
      → (status ≡ 0) ⊎ (status ≡ 5))

-- What is written of a made stream to a sink whose bytes and whose failed writes these tell.
pub record Makes {K : Type 0} (written : K → Option (List ℕ)) (failed_writes : K → ℕ)
    (stream : List ℕ) (old new : K) (status : ℕ) : Type 0 where
  pub statuses : IsMade status
  -- on 0 and 1 its line was written, and the status tells whether it was decoded
  pub whole : status ≤ 1 → Appends (written old) (written new) (summary_of stream)
      × (status ≡ status_of (ending_of default_options stream))
  -- whatever the status, a prefix of that line was written; on any but 0 and 1 not the whole
  pub part : AppendsPrefix (written old) (written new) (summary_of stream)
  pub less : 1 < status → AppendsLess (written old) (written new) (summary_of stream)
  pub write : status ≡ 4 → Rose (failed_writes old) (failed_writes new)
  -- a clean one is decoded unless the sink or an allocation fails
  pub clean : IsClean (meanings default_options stream)
      → ¬ (Rose (failed_writes old) (failed_writes new)) → (status ≡ 0) ⊎ (status ≡ 5)

-- By how many pictures the words ask to make: by none of them the stream that the source has left
-- is reported, by some the source isn't read.
abbrev pub RunsBy : {S K : Type 0} → Option ℕ → Ends S K → ℕ → Option Options
    → Moment S K → Moment S K → ℕ → Type 0
RunsBy None ends limit asked old new status = Reports ends limit asked old new status
RunsBy (Some pictures) ends limit asked old new status =
    (new.source ≡ old.source)
    × Makes ends.written ends.failed_writes (made pictures) old.sink new.sink status

abbrev pub Runs : {S K : Type 0} → Ends S K → ℕ → List (List ℕ)
    → Moment S K → Moment S K → ℕ → Type 0
Runs ends limit words old new status =
    RunsBy (pictures_to_make words) ends limit (command words) old new status
