-- What was done of the events that a unit asks for, by its answer.
use Rattle.std.specs.Prelude.{◌≡◌, ℕ, true, false, List, [], ◌∷◌, ◌++◌, map, Some, None, Result, Ok}
use Rattle.std.specs.Prelude.{Err}
use Rattle.std.specs.List.{AllByRecursion, flat_map}
use Rattle.hevc_walk.specs.Meanings.{Meaning}
use Rattle.hevc_walk.specs.Walk as walk
use Rattle.hevc_walk.specs.Walk.{Event, Called, at_unit}
use Rattle.hevc_walk.specs.Refusals.{Cause}
use Rattle.hevc_walk.specs.Results.{calls_in, outputs_in}
use Rattle.hevc_walk_units.specs.Units.{Standing, unit_part, refusal_at, is_full_at, is_full_now}
use Rattle.hevc_walk_units.specs.Units.{closing_part}
use Rattle.hevc_dpb.specs.Entries.{IsPartOf}
use Rattle.hevc_backend.specs.declared.call.Call.{Call}
use Rattle.hevc_backend.specs.Trait.{logged}
use Rattle.hevc_backend.specs.Handed.{Handed}
use Rattle.hevc_driver.specs.Given.{Given, handed_in}
use Rattle.hevc_driver.specs.declared.decode_error.DecodeError.{DecodeError}
use Rattle.hevc_driver.specs.declared.decode_error.DecodeError.TheVariants as errors
use Rattle.hevc_driver.specs.Errors.{error_of}
use Rattle.hevc_driver.specs.Calls.{call_of, IsTimed, submissions}
use Rattle.hevc_driver.specs.Moments.{begins_at}
use Rattle.hevc_stateless_laws.specs.Stands.{asked}
use Rattle.hevc_decoder.specs.declared.decoded.Shown.{Shown}
use Rattle.hevc_decoder.specs.Names.{output_picture, shown_ticket}
use Rattle.hevc_decoder.specs.Scenes.{Trail}

-- what comes with an event of a unit, where this comes with each unit
abbrev pub handed_at : (ℕ → Given) → ℕ × Event → List Handed
handed_at at e = handed_in (at e.0) e.1

-- These events were done: their calls were made, at no time, with what comes with each unit, and
-- their outputs given, each with a handle that was stored or was submitted for its number.
pub record DoesAll {H : Type 0} (at : ℕ → Given) (old new : Trail H) (done : List (ℕ × Event))
    : Type 0 where
  pub calls : List (Call H)
  pub log : new.log ≡ logged old.log calls
  pub made : map call_of calls ≡ map asked (calls_in done)
  pub timed : AllByRecursion (IsTimed 0) calls
  pub handed : new.handed ≡ logged old.handed (flat_map (handed_at at) done)
  pub out : List (Shown H)
  pub shown : new.shown ≡ old.shown ++ out
  pub given : map output_picture out ≡ outputs_in done
  pub tied : IsPartOf (map shown_ticket out ++ new.tickets) (old.tickets ++ submissions calls)

-- the next event is a call
pub record CallsNext (rest : List Event) : Type 0 where
  pub call : walk.Call
  pub later : List Event
  pub rest_is : rest ≡ Called call ∷ later

-- A plan of unit k was done up to some event; up to a call, if the backend failed.
pub record StopsPlan {H : Type 0} (at : ℕ → Given) (failed : Type 0) (k : ℕ) (old new : Trail H)
    (plan : List Event)
    : Type 0 where
  pub done : List Event
  pub rest : List Event
  pub whole : plan ≡ done ++ rest
  pub does : DoesAll at old new (at_unit k done)
  pub next : failed → CallsNext rest

-- Of a plan of unit k the picture before was submitted, and no more.
pub record FillsPlan {H : Type 0} (at : ℕ → Given) (k : ℕ) (old new : Trail H) (plan : List Event)
    : Type 0 where
  pub number : ℕ
  pub rest : List Event
  pub whole : plan ≡ Called (walk.SubmitPicture number) ∷ rest
  pub does : DoesAll at old new (at_unit k (Called (walk.SubmitPicture number) ∷ []))

-- A unit was taken whole.
pub record TakesWhole {H : Type 0} (at : ℕ → Given) (k : ℕ) (old new : Trail H) (y : Meaning)
    (before : Standing)
    : Type 0 where
  pub goes_on : refusal_at y before ≡ None
  pub room : is_full_at y before ≡ false
  pub does : DoesAll at old new (at_unit k (unit_part y before).events)

-- It was refused for a cause.
pub record RefusesUnit {H : Type 0} (at : ℕ → Given) (error : DecodeError) (k : ℕ)
    (old new : Trail H) (y : Meaning)
    (before : Standing) : Type 0 where
  pub room : is_full_at y before ≡ false
  pub cause : Cause
  pub refused : refusal_at y before ≡ Some cause
  pub named : error_of cause ≡ error
  pub does : DoesAll at old new (at_unit k (unit_part y before).events)

-- The picture before was to be stored into a full buffer.
pub record FillsUnit {H : Type 0} (at : ℕ → Given) (k : ℕ) (old new : Trail H) (y : Meaning)
    (before : Standing)
    : Type 0 where
  pub full : is_full_at y before ≡ true
  pub fills : FillsPlan at k old new (unit_part y before).events

-- No frame was free for the picture that it begins.
pub record HaltsUnit {H : Type 0} (at : ℕ → Given) (frames k : ℕ) (old new : Trail H) (y : Meaning)
    (before : Standing) : Type 0 where
  pub told : frames ≡ 1
  pub begins : begins_at y before ≡ true
  pub stops : StopsPlan at ⊥ k old new (unit_part y before).events

-- what was done of unit k, whose meaning is y, by its answer
abbrev pub TakesUnit : {H T : Type 0} → (ℕ → Given)
    → Result T DecodeError → ℕ → Trail H → Trail H → Meaning
    → Standing → Type 0
TakesUnit at (Ok value) k old new y before = TakesWhole at k old new y before
TakesUnit at (Err errors.Backend) k old new y before =
    StopsPlan at (Unit {0}) k old new (unit_part y before).events
TakesUnit at (Err errors.NoMemory) k old new y before =
    StopsPlan at ⊥ k old new (unit_part y before).events
TakesUnit at (Err errors.DpbFull) k old new y before = FillsUnit at k old new y before
TakesUnit at (Err (errors.NotEnoughOutputBuffers frames)) k old new y before =
    HaltsUnit at frames k old new y before
TakesUnit at (Err errors.NoNal) k old new y before = ⊥
TakesUnit at (Err errors.CheckEvents) k old new y before = ⊥
TakesUnit at (Err errors.PictureNumbersSpent) k old new y before = ⊥
TakesUnit at (Err error) k old new y before = RefusesUnit at error k old new y before

-- The stream ended, after k units.
pub record ClosesWhole {H : Type 0} (at : ℕ → Given) (k : ℕ) (old new : Trail H) (before : Standing)
    : Type 0 where
  pub room : is_full_now before ≡ false
  pub does : DoesAll at old new (at_unit k (closing_part before).events)

-- Its last picture was to be stored into a full buffer.
pub record FillsAtEnd {H : Type 0} (at : ℕ → Given) (k : ℕ) (old new : Trail H) (before : Standing)
    : Type 0 where
  pub full : is_full_now before ≡ true
  pub fills : FillsPlan at k old new (closing_part before).events

-- what was done after the last unit, by the answer
abbrev pub EndsStream : {H T : Type 0} → (ℕ → Given)
    → Result T DecodeError → ℕ → Trail H → Trail H → Standing
    → Type 0
EndsStream at (Ok value) k old new before = ClosesWhole at k old new before
EndsStream at (Err errors.Backend) k old new before =
    StopsPlan at (Unit {0}) k old new (closing_part before).events
EndsStream at (Err errors.NoMemory) k old new before =
    StopsPlan at ⊥ k old new (closing_part before).events
EndsStream at (Err errors.DpbFull) k old new before = FillsAtEnd at k old new before
EndsStream at (Err error) k old new before = ⊥
