-- What `flush` does.
use Rattle.std.specs.Prelude.{◌≡◌, ◌⊎◌, true, false, if◌then◌else◌, Result, Ok, Err}
use Rattle.hevc_walk_units.specs.Units.{Standing, is_full_now}
use Rattle.hevc_driver.specs.declared.decode_error.DecodeError.{DecodeError}
use Rattle.hevc_driver.specs.declared.decode_error.DecodeError.TheVariants as errors
use Rattle.hevc_driver.specs.Given.{Given}
use Rattle.hevc_driver.specs.Does.{Traces, Does, Stops}
use Rattle.hevc_driver.specs.Moments.{closes, given_up, forgotten}
use Rattle.hevc_driver.specs.Takes.{Fills, Stays}
use Rattle.hevc_stateless.specs.declared.state.State.{State}
use Rattle.hevc_stateless.specs.States.{is_awaited}

-- The open picture was finished, and all that waited was output;
-- a format that was awaited is forgotten.
pub record Ends {H : Type 0} (given : Given) (old new : Traces H) (state : State)
    (before standing : Standing) : Type 0 where
  pub room : is_full_now before ≡ false
  pub does : Does given old new (closes before).events
  pub left :
      standing ≡ (if is_awaited state then forgotten (closes before).next else (closes before).next)

abbrev pub Flushes : {H T : Type 0} → Result T DecodeError → Given → Traces H → Traces H → State
    → Standing → Standing → Type 0
Flushes (Ok value) given old new state before standing =
    Ends given old new state before standing
Flushes (Err errors.DpbFull) given old new state before standing =
    (is_full_now before ≡ true) × Fills given old new (closes before).events before standing
Flushes (Err errors.Backend) given old new state before standing =
    Stops given old new (closes before).events (λ call. standing ≡ given_up before)
Flushes (Err errors.NoMemory) given old new state before standing =
    Stays old new before standing
    ⊎ Stops given old new (closes before).events (λ call. standing ≡ given_up before)
Flushes (Err error) given old new state before standing = ⊥
