-- What a part of the walk does to the backend's log,
-- to the queue and to the stored pictures' handles.
use Rattle.std.specs.Prelude.{◌≡◌, ℕ, ℤ, Bool, if◌then◌else◌, List, [], ◌∷◌, ◌++◌, map, Option}
use Rattle.std.specs.Prelude.{Result, Ok, Err}
use Rattle.std.specs.List.{AllByRecursion, flat_map}
use Rattle.hevc_walk.specs.Walk as walk
use Rattle.hevc_walk.specs.Walk.{Event, Called, Output, Part}
use Rattle.hevc_walk_units.specs.Units.{Standing}
use Rattle.hevc_dpb.specs.Entries.{IsPartOf}
use Rattle.hevc_bumping.specs.declared.frame.Frame.{Frame}
use Rattle.hevc_bumping.specs.Frames.{frame_output, frame_ticket}
use Rattle.hevc_backend.specs.declared.call.Call.{Call}
use Rattle.hevc_backend.specs.Trait.{logged, asked_more}
use Rattle.hevc_backend.specs.Handed.{Handed}
use Rattle.hevc_driver.specs.declared.decode_error.DecodeError.{DecodeError}
use Rattle.hevc_driver.specs.declared.decode_error.DecodeError.TheVariants as errors
use Rattle.hevc_driver.specs.Calls.{call_of, IsTimed, submissions}
use Rattle.hevc_driver.specs.Given.{Given, handed_in}

-- All that a part may change: what a backend tells, the queue, and what is stored.
pub record Traces (H : Type 0) : Type 0 where
  pub log : Option (List (Call H))
  pub handed : Option (List Handed)
  -- how often it was asked for free frames
  pub asked : Option ℕ
  pub queue : List (Frame H)
  pub tickets : List (ℕ × H)

-- after one more question for free frames
abbrev pub questioned : {H : Type 0} → Traces H → Traces H
questioned t = record t { asked = asked_more t.asked }

-- after one, if so
abbrev pub questioned_if : {H : Type 0} → Bool → Traces H → Traces H
questioned_if asks t = record t { asked = if asks then asked_more t.asked else t.asked }

abbrev pub call_in : Event → List walk.Call
call_in (Called call) = call ∷ []
call_in (Output number order_count) = []

abbrev pub output_in : Event → List (ℕ × ℤ)
output_in (Called call) = []
output_in (Output number order_count) = (number, order_count) ∷ []

-- These events were done with what came with a unit, each output with a handle that was stored or
-- was submitted for its number. No frame was asked for.
pub record Does {H : Type 0} (given : Given) (old new : Traces H) (done : List Event) : Type 0 where
  pub calls : List (Call H)
  pub log : new.log ≡ logged old.log calls
  pub made : map call_of calls ≡ flat_map call_in done
  pub timed : AllByRecursion (IsTimed given.timestamp) calls
  pub handed : new.handed ≡ logged old.handed (flat_map (handed_in given) done)
  pub asked : new.asked ≡ old.asked
  pub out : List (Frame H)
  pub queue : new.queue ≡ old.queue ++ out
  pub shown : map frame_output out ≡ flat_map output_in done
  pub tied : IsPartOf (map frame_ticket out ++ new.tickets) (old.tickets ++ submissions calls)

-- A plan was done up to a call, which the backend refused.
pub record Stops {H : Type 0} (given : Given) (old new : Traces H) (plan : List Event)
    (Left : walk.Call → Type 0) : Type 0 where
  pub done : List Event
  pub call : walk.Call
  pub rest : List Event
  pub whole : plan ≡ done ++ Called call ∷ rest
  pub does : Does given old new done
  pub left : Left call

-- A part was done whole, and led to a standing.
pub record Completes {H : Type 0} (given : Given) (old new : Traces H) (part : Part Standing)
    (standing : Standing) : Type 0 where
  pub does : Does given old new part.events
  pub next : standing ≡ part.next

-- the backend refused a call, because an allocation failed or it failed itself
abbrev pub StopsBy : {H : Type 0} → DecodeError → Given → Traces H → Traces H → List Event
    → (walk.Call → Type 0) → Type 0
StopsBy errors.Backend given old new plan Left = Stops given old new plan Left
StopsBy errors.NoMemory given old new plan Left = Stops given old new plan Left
StopsBy error given old new plan Left = ⊥

-- a part was done whole, or up to a call
abbrev pub Runs : {H T : Type 0} → Result T DecodeError → Given → Traces H → Traces H
    → Part Standing
    → (walk.Call → Type 0) → Standing → Type 0
Runs (Ok value) given old new part Left standing = Completes given old new part standing
Runs (Err error) given old new part Left standing =
    StopsBy error given old new part.events Left
