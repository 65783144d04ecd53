-- The answers to a stream.
use Rattle.std.specs.Prelude.{◌≡◌, ℕ, Result, Ok, Err}
use Rattle.hevc_driver.specs.declared.decode_error.DecodeError.{DecodeError}
use Rattle.hevc_driver.specs.declared.decode_error.DecodeError.TheVariants as errors
use Rattle.hevc_decoder.specs.declared.decoded.Refused.{Refused}

-- an answer without its unit
abbrev pub without_unit : {T : Type 0} → Result T Refused → Result T DecodeError
without_unit (Ok value) = Ok value
without_unit (Err refused) = Err refused.error

-- whether there is one, and which error there is
abbrev pub outcome : {T : Type 0} → Result T Refused → Result (Unit {0}) DecodeError
outcome (Ok value) = Ok tt
outcome (Err refused) = Err refused.error

-- A stream has no unit that isn't there, a format is accepted as it is negotiated, and numbers
-- suffice for less than 2^60 units. One frame is asked for at a time.
abbrev pub IsAnswer : DecodeError → Type 0
IsAnswer errors.NoNal = ⊥
IsAnswer errors.CheckEvents = ⊥
IsAnswer errors.PictureNumbersSpent = ⊥
IsAnswer (errors.NotEnoughOutputBuffers frames) = frames ≡ 1
IsAnswer error = Unit {0}

abbrev pub AnswersOnly : Result ℕ Refused → Type 0
AnswersOnly (Ok pictures) = Unit {0}
AnswersOnly (Err refused) = IsAnswer refused.error

abbrev pub IsNoMemory : DecodeError → Type 0
IsNoMemory errors.NoMemory = Unit {0}
IsNoMemory error = ⊥

-- the stream is decoded whole, or an allocation failed
abbrev pub IsOkOrNoMemory : Result ℕ Refused → Type 0
IsOkOrNoMemory (Ok pictures) = Unit {0}
IsOkOrNoMemory (Err refused) = IsNoMemory refused.error

abbrev pub IsNoFullStore : DecodeError → Type 0
IsNoFullStore errors.DpbFull = ⊥
IsNoFullStore error = Unit {0}

-- no picture found the buffer full as it was to be stored (C.5.2.3)
abbrev pub FindsRoom : Result ℕ Refused → Type 0
FindsRoom (Ok pictures) = Unit {0}
FindsRoom (Err refused) = IsNoFullStore refused.error
