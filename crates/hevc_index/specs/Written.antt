-- What is written of a stream, and the status.
use Rattle.std.specs.Prelude.{ℕ, List, ◌++◌, length, codes, decimal, Option, Some, None, Result, Ok, Err, IfSome}
use Rattle.std.specs.Fmt.{signed_decimal}
use Rattle.std.specs.List.{flat_map}
use Rattle.hevc_walk.specs.Pictures.{Picture}
use Rattle.hevc_stream.specs.Options.{default_options}
use Rattle.hevc_decoder.specs.declared.decoded.Refused.{Refused}
use Rattle.hevc_report.specs.Report.{refusal_line}
use Rattle.hevc_index_laws.specs.Points.{points_of, PlainPoint}
use Rattle.hevc_index_laws.specs.SplicedUnits.{spliced_bytes}
use Rattle.hevc_program_answers.specs.Answers.{answering, Program}
use Rattle.hevc_index.specs.declared.words.Request.{Request}
use Rattle.hevc_index.specs.declared.words.Request.TheVariants.{Points, Splice}
use Rattle.hevc_index.specs.Indexing.{ending, point_at, BeginsAtPoint}

-- the line of a point: its number, the unit of its first slice, the place of that unit's header,
-- its type and its order count
abbrev pub point_line : PlainPoint → List ℕ
point_line p =
    codes "point " ++ decimal p.number ++ codes " unit " ++ decimal p.unit
    ++ codes " offset " ++ decimal p.offset ++ codes " type " ++ decimal p.nal_unit_type
    ++ codes " poc " ++ signed_decimal p.order_count ++ codes "\n"

-- a line for each point, and a last one with their number
abbrev pub points_text : List PlainPoint → List ℕ
points_text points =
    flat_map point_line points ++ codes "end points " ++ decimal (length points) ++ codes "\n"

-- the line where no point has a number
abbrev pub no_point_line : ℕ → List ℕ
no_point_line number = codes "no point " ++ decimal number ++ codes "\n"

-- the bytes from a point on, or the line that there is none
abbrev pub spliced_or_line : ℕ → List ℕ → Option Picture → List ℕ
spliced_or_line number stream (Some p) = spliced_bytes p.unit stream
spliced_or_line number stream None = no_point_line number

-- what a stream that isn't refused gives
abbrev pub asked_of : Request → List ℕ → List ℕ
asked_of Points stream = points_text (points_of default_options stream)
asked_of (Splice number) stream = spliced_or_line number stream (point_at number stream)

-- what is asked for, or the line of the refusal
abbrev pub written_by : Request → List ℕ → Result ℕ Refused → List ℕ
written_by request stream (Ok pictures) = asked_of request stream
written_by request stream (Err refused) = refusal_line refused

abbrev pub written_of : Request → List ℕ → List ℕ
written_of request stream = written_by request stream (ending stream)

-- 7 where there is no such point
abbrev pub status_at : Option Picture → ℕ
status_at (Some p) = 0
status_at None = 7

abbrev pub status_asked : Request → List ℕ → ℕ
status_asked Points stream = 0
status_asked (Splice number) stream = status_at (point_at number stream)

-- 1 where the stream is refused
abbrev pub status_by : Request → List ℕ → Result ℕ Refused → ℕ
status_by request stream (Ok pictures) = status_asked request stream
status_by request stream (Err refused) = 1

abbrev pub status_of : Request → List ℕ → ℕ
status_of request stream = status_by request stream (ending stream)

-- where a point was asked for, the bytes are decoded as the stream is from it on
abbrev pub BeginsAsAsked : Request → List ℕ → List ℕ → Type 0
BeginsAsAsked Points stream bytes = Unit {0}
BeginsAsAsked (Splice number) stream bytes =
    IfSome (point_at number stream) (λ p. BeginsAtPoint p stream bytes)

-- points and splicing, as a program, whose statuses are up to 7
abbrev pub index_program : Program Request
index_program = answering written_of status_of 7
