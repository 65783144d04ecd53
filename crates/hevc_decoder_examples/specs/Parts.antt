-- Small answers, calls and outputs, by which parts of what decoding promises are met or broken.
use Rattle.std.specs.Prelude.{ℕ, ℤ, pos, List, [], ◌∷◌, Option, Some, None, Bool, true, Result, Err}
use Rattle.hevc_walk.specs.Walk as walk
use Rattle.hevc_bits.specs.declared.nalu_type.NaluType.TheVariants.{TrailR}
use Rattle.hevc_backend.specs.declared.call.Call.{Call}
use Rattle.hevc_backend.specs.declared.call.Call.TheVariants.{NewPicture}
use Rattle.hevc_backend.specs.Handed.{Handed, Announced, no_picture}
use Rattle.hevc_driver.specs.declared.decode_error.DecodeError.{DecodeError}
use Rattle.hevc_decoder.specs.declared.decoded.Refused.{Refused}
use Rattle.hevc_decoder.specs.declared.decoded.Shown.{Shown}

-- a log that is exposed, and has no call
abbrev pub no_calls : Option (List (Call ℕ))
no_calls = Some []

abbrev pub no_outputs : List (Shown ℕ)
no_outputs = []

-- a picture begins at this time
abbrev pub begun_at : (timestamp : ℕ) → Call ℕ
begun_at timestamp = NewPicture 0 TrailR (pos 0) true timestamp

-- a picture is announced
abbrev pub announced : List Handed
announced = Announced 0 no_picture ∷ []

-- a picture begins, and is submitted
abbrev pub one_picture : List walk.Call
one_picture = walk.NewPicture 0 1 (pos 0) true 0 ∷ walk.SubmitPicture 0 ∷ []

-- the third unit is refused so
abbrev pub refused_by : DecodeError → Result ℕ Refused
refused_by error = Err (record { unit = 2; error = error })

-- so is the next unit of a stream
abbrev pub next_refused_by : DecodeError → Result (Option ℕ) Refused
next_refused_by error = Err (record { unit = 2; error = error })
