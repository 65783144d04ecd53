-- Outputs and refusals of the code, as those of the model.
use Rattle.std.specs.Prelude.{ℕ, Result, Ok, Err}
use Rattle.hevc_walk.specs.Refusals.{Refusal}
use Rattle.hevc_walk.specs.Results.{OutputPicture}
use Rattle.hevc_bumping.specs.declared.frame.Frame.{Frame}
use Rattle.hevc_driver.specs.Errors.{error_of}
use Rattle.hevc_decoder.specs.declared.decoded.Shown.{Shown}
use Rattle.hevc_decoder.specs.declared.decoded.Refused.{Refused}

-- a picture that was output, as an output of the k-th unit
abbrev pub shown_at : {H : Type 0} → ℕ → Frame H → Shown H
shown_at k f = record {
  number = f.number;
  handle = f.handle;
  order_count = f.order_count;
  unit = k;
}

-- an output without its handle
abbrev pub output_picture : {H : Type 0} → Shown H → OutputPicture
output_picture o = record { number = o.number; order_count = o.order_count; unit = o.unit }

-- the number of an output's picture, with its handle
abbrev pub shown_ticket : {H : Type 0} → Shown H → ℕ × H
shown_ticket o = (o.number, o.handle)

abbrev pub refused_of : Refusal → Refused
refused_of r = record { unit = r.unit; error = error_of r.cause }

-- a verdict on a stream, as decoding answers it
abbrev pub answer_of : Result ℕ Refusal → Result ℕ Refused
answer_of (Ok pictures) = Ok pictures
answer_of (Err refusal) = Err (refused_of refusal)
