-- What answers tell of the backend.
use Rattle.std.specs.Prelude.{◌≡◌, Result, Ok, Err}
use Rattle.hevc_backend.specs.Trait.{Counts, Counted}
use Rattle.hevc_driver.specs.declared.decode_error.DecodeError.{DecodeError}
use Rattle.hevc_driver.specs.declared.decode_error.DecodeError.TheVariants.{Backend, NoMemory}
use Rattle.hevc_driver.specs.declared.decode_error.DecodeError.TheVariants.{CheckEvents}
use Rattle.hevc_driver.specs.declared.decode_error.DecodeError.TheVariants.{NotEnoughOutputBuffers}
use Rattle.hevc_driver.specs.declared.driver.Driver.{Driver}

-- the counts are as they were, unless the backend failed or had no frame:
-- then that of faults or of empty answers rose
abbrev pub CountsError : Counts → Counts → DecodeError → Type 0
CountsError before now Backend =
    Counted before.faults now.faults × (now ≡ record before { faults = now.faults })
CountsError before now (NotEnoughOutputBuffers frames) =
    Counted before.empty_answers now.empty_answers
    × (now ≡ record before { empty_answers = now.empty_answers })
CountsError before now error = now ≡ before

abbrev pub CountsErrors : {T : Type 0} → Counts → Counts → Result T DecodeError → Type 0
CountsErrors before now (Ok value) = now ≡ before
CountsErrors before now (Err error) = CountsError before now error

abbrev pub IsOfBackend : DecodeError → Type 0
IsOfBackend Backend = Unit {0}
IsOfBackend (NotEnoughOutputBuffers frames) = Unit {0}
IsOfBackend error = ⊥

-- the answer is none of a backend that fails, or has no frame
abbrev pub IsNotOfBackend : {T : Type 0} → Result T DecodeError → Type 0
IsNotOfBackend (Ok value) = Unit {0}
IsNotOfBackend (Err error) = ¬ IsOfBackend error

-- a backend that never fails didn't, and never will
abbrev pub KeepsFaultless : {T : Type 0} → Type 0 → Type 0 → Result T DecodeError → Type 0
KeepsFaultless before now result = before → now × IsNotOfBackend result

-- the format that was told is as it was, unless another was told, or the backend refused a call
abbrev pub KeepsInfo : {I T : Type 0} → I → I → Result T DecodeError → Type 0
KeepsInfo before now (Err Backend) = Unit {0}
KeepsInfo before now (Err NoMemory) = Unit {0}
KeepsInfo before now (Err CheckEvents) = Unit {0}
KeepsInfo before now result = now ≡ before

-- Whom an answer blames, by the backend's counts and its promise never to fail.
pub record BlamesFairly {B T : Type 0} (counts : B → Counts) (is_faultless : B → Type 0)
    (before now : B) (result : Result T DecodeError) : Type 0 where
  -- it only where a count rose, and then always
  pub cause : CountsErrors (counts before) (counts now) result
  -- and never where it never fails
  pub faultless : KeepsFaultless (is_faultless before) (is_faultless now) result

-- What an answer says of the backend, of which the format that it tells is told too.
pub record IsFair {B I T : Type 0} (counts : B → Counts) (is_faultless : B → Type 0) (tells : B → I)
    (before now : B) (result : Result T DecodeError) : Type 0 where
  pub blames : BlamesFairly counts is_faultless before now result
  pub info : KeepsInfo (tells before) (tells now) result

-- so it is of a driver's backend
abbrev pub IsFairIn : {B H P I T : Type 0} → (counts : B → Counts) → (is_faultless : B → Type 0)
    → (tells : B → I) → (before now : Driver B H P) → Result T DecodeError → Type 0
IsFairIn counts is_faultless tells before now result =
    IsFair counts is_faultless tells before.backend now.backend result

-- the answer to a unit whose format was told, and is awaited
abbrev pub awaited : {T : Type 0} → Result T DecodeError → Result T DecodeError
awaited (Ok value) = Err CheckEvents
awaited (Err error) = Err error
