-- What is told of the points of a stream, and of a stream that begins at one of them.
use Rattle.std.specs.Prelude.{◌≡◌, ℕ, List, Option, None, Result, Ok, Err, IfOk, IsOk, IsSome}
use Rattle.hevc_bits.specs.NaluType.{nalu_type_number}
use Rattle.hevc_walk.specs.Pictures.{Picture}
use Rattle.hevc_walk.specs.Results.{verdict}
use Rattle.hevc_stream.specs.Options.{default_options}
use Rattle.hevc_stream.specs.Stream.{meanings}
use Rattle.hevc_driver.specs.declared.decode_error.DecodeError.{DecodeError}
use Rattle.hevc_driver.specs.declared.decode_error.DecodeError.TheVariants as decode
use Rattle.hevc_decoder.specs.declared.decoded.Refused.{Refused}
use Rattle.hevc_report.specs.Report.{ending_of}
use Rattle.hevc_index_laws.specs.Begun.{BeginsAt}
use Rattle.hevc_index_laws.specs.Points.{point_numbered, PlainPoint}
use Rattle.hevc_index.specs.declared.point.Point.{Point}
use Rattle.hevc_index.specs.declared.point.IndexError.{IndexError}
use Rattle.hevc_index.specs.declared.point.IndexError.TheVariants as errors

-- what is told of a point, as the definitions of streams have it
abbrev pub plain_point : Point → PlainPoint
plain_point p = record {
  number = p.number;
  unit = p.unit;
  offset = p.offset;
  nal_unit_type = nalu_type_number p.nalu_type;
  order_count = p.order_count;
}

-- how a stream ends: with the number of its pictures, or refused
abbrev pub ending : List ℕ → Result ℕ Refused
ending stream = ending_of default_options stream

-- the error of a decoding that was refused; a failed allocation is no refusal
abbrev pub error_for : DecodeError → Refused → IndexError
error_for decode.NoMemory refused = errors.NoMemory
error_for error refused = errors.Refused refused

-- the point of a stream that has a picture number
abbrev pub point_at : ℕ → List ℕ → Option Picture
point_at number stream = point_numbered number (meanings default_options stream)

-- A stream is refused as it ends, and not refused where it ends with its pictures, but for want of
-- memory.
abbrev pub JudgesError : IndexError → Result ℕ Refused → Type 0
JudgesError (errors.Refused refused) ending = ending ≡ Err refused
JudgesError errors.NoSuchPoint ending = IsOk ending
JudgesError errors.NoMemory ending = Unit {0}

abbrev pub Judges : {T : Type 0} → Result T IndexError → Result ℕ Refused → Type 0
Judges (Ok value) ending = IsOk ending
Judges (Err error) ending = JudgesError error ending

-- there is no point of the number exactly where that is the answer, unless the stream is refused or
-- an allocation fails
abbrev pub SeeksByError : IndexError → Option Picture → Type 0
SeeksByError (errors.Refused refused) point = Unit {0}
SeeksByError errors.NoSuchPoint point = point ≡ None
SeeksByError errors.NoMemory point = Unit {0}

abbrev pub Seeks : {T : Type 0} → Result T IndexError → Option Picture → Type 0
Seeks (Ok value) point = IsSome point
Seeks (Err error) point = SeeksByError error point

-- bytes are decoded as the stream is from a point on
abbrev pub BeginsAtPoint : Picture → List ℕ → List ℕ → Type 0
BeginsAtPoint p stream bytes =
    IfOk (verdict (meanings default_options stream))
    (λ m. BeginsAt default_options p m stream bytes)
