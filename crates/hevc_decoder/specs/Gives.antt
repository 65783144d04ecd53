-- What a unit of a stream, and the end of it, do as a decoder is called and its outputs are moved.
use Rattle.std.specs.Prelude.{◌≡◌, ◌⊎◌, ℕ, Bool, true, false, List, [], ◌∷◌, ◌++◌, map, Result, Ok}
use Rattle.std.specs.Prelude.{Err}
use Rattle.hevc_spec.specs.Units.{NalUnit}
use Rattle.hevc_spec.specs.UnitHeader.{UnitHeader, HeaderFault, unit_header}
use Rattle.hevc_stream.specs.Options.{Options}
use Rattle.hevc_bumping.specs.declared.frame.Frame.{Frame}
use Rattle.hevc_driver.specs.declared.decode_error.DecodeError.{DecodeError}
use Rattle.hevc_driver.specs.declared.decode_error.DecodeError.TheVariants as errors
use Rattle.hevc_driver.specs.Given.{Given}
use Rattle.hevc_stateless.specs.Steps.{Seen, StepsIn}
use Rattle.hevc_stateless.specs.Flushes.{Flushes}
use Rattle.hevc_stateless.specs.Views.{traces_of}
use Rattle.hevc_decoder.specs.Names.{shown_at}
use Rattle.hevc_decoder.specs.Scenes.{Scene, with_queue, accepting}

-- A call was made with an empty queue, and what it output was moved.
pub record Delivered {B H T : Type 0} (Calls : Result T DecodeError → Seen B H → Seen B H → Type 0)
    (result : Result T DecodeError) (k : ℕ) (old new : Scene B H) : Type 0 where
  pub out : List (Frame H)
  pub calls : Calls result old.seen (with_queue out new.seen)
  pub shown : new.shown ≡ old.shown ++ map (shown_at k) out

-- there was no memory for the outputs
pub record Unmade {B H T : Type 0} (result : Result T DecodeError) (old new : Scene B H)
    : Type 0 where
  pub told : result ≡ Err errors.NoMemory
  pub same : new ≡ old

-- a call of `decode_unit`
abbrev pub DecodesUnit : {B H T : Type 0} → Options → UnitHeader → List ℕ → Result T DecodeError
    → Seen B H → Seen B H → Type 0
DecodesUnit options header bytes result old new =
    StepsIn result 0 options header bytes old new

-- the unit was given, the k-th
abbrev pub Gives : {B H T : Type 0} → Result T DecodeError → ℕ → Options → UnitHeader → List ℕ
    → Scene B H → Scene B H → Type 0
Gives result k options header bytes old new =
    Delivered (DecodesUnit options header bytes) result k old new ⊎ Unmade result old new

abbrev pub is_check_events : {T : Type 0} → Result T DecodeError → Bool
is_check_events (Err errors.CheckEvents) = true
is_check_events result = false

-- It opened a negotiation, whose format was accepted, and was given again.
pub record GivesAgain {B H T : Type 0} (result : Result T DecodeError) (k : ℕ) (options : Options)
    (header : UnitHeader) (bytes : List ℕ) (old new : Scene B H) : Type 0 where
  pub mid : Scene B H
  pub emptied : mid.seen.view.queue ≡ []
  pub opens : Delivered {T = T} (DecodesUnit options header bytes) (Err errors.CheckEvents) k old
      mid
  pub again : Gives result k options header bytes (accepting mid) new

abbrev pub GivesWhole : {B H T : Type 0} → Result T DecodeError → ℕ → Options → UnitHeader → List ℕ
    → Scene B H → Scene B H → Type 0
GivesWhole result k options header bytes old new =
    ((is_check_events result ≡ false) × Gives result k options header bytes old new)
    ⊎ GivesAgain result k options header bytes old new

-- a call of `flush`
abbrev pub Flushed : {B H T : Type 0} → Result T DecodeError → Seen B H → Seen B H → Type 0
Flushed result old new =
    (given : Given)
    → Flushes result given (traces_of old.log old.handed old.asked old.view)
    (traces_of new.log new.handed new.asked new.view) old.view.state old.view.standing
    new.view.standing

-- the stream ended, after k units
abbrev pub Closes : {B H T : Type 0} → Result T DecodeError → ℕ → Scene B H → Scene B H → Type 0
Closes result k old new = Delivered Flushed result k old new ⊎ Unmade result old new

-- What is left after the next unit, the k-th, was asked for. None is left, or the header of the
-- first is refused: all stays. Else it was given.
abbrev pub LeavesUnit : {B H : Type 0} → Result UnitHeader HeaderFault
    → Result (Unit {0}) DecodeError → ℕ
    → Options → List ℕ → Scene B H → Scene B H → Type 0
LeavesUnit (Ok header) result k options bytes old new =
    GivesWhole result k options header bytes old new
LeavesUnit (Err fault) result k options bytes old new = new ≡ old

abbrev pub LeavesNext : {B H : Type 0} → Result (Unit {0}) DecodeError → Options → ℕ
    → List NalUnit → Scene B H → Scene B H → Type 0
LeavesNext result options k [] old new = new ≡ old
LeavesNext result options k (u ∷ us) old new =
    LeavesUnit (unit_header u.bytes) result k options u.bytes old new
