-- The order in which what came of units is taken.
use Rattle.std.specs.Prelude.{◌≡◌, ℕ, ◌+◌, ◌==◌, ◌&&◌, Bool, true, false, not, List, [], ◌∷◌}
use Rattle.std.specs.Prelude.{slice_index_or, length, Option, Some, None, Result, Ok, Err}
use Rattle.hevc_queue.specs.declared.given.Given.{Given}
use Rattle.hevc_stateless.specs.States.{is_awaited}
use Rattle.hevc_stateless.specs.Views.{View, at_beginning}
use Rattle.hevc_stateless.specs.declared.state.State.{State}
use Rattle.hevc_stateless.specs.declared.state.State.TheVariants.{Decoding, Reset}
use Rattle.hevc_events.specs.declared.event.Event.{Event}
use Rattle.hevc_queue.specs.Events.{event_of}
use Rattle.hevc_queue.specs.Queue.{Queue, new_queue, with_taken}
use Rattle.hevc_pull.specs.declared.decoder.PullDecoder.{PullDecoder}
use Rattle.hevc_pull.specs.Views.{view_in}
use Rattle.hevc_pull.specs.declared.counted.Counted.{Counted}
use Rattle.hevc_pull.specs.declared.pulled.Pulled.{Pulled}
use Rattle.hevc_pull.specs.declared.pulled.Pulled.TheVariants.{Asked, Output, Dropped, Skipped}
use Rattle.hevc_pull.specs.declared.pulled.Pulled.TheVariants.{FormatChanged}
use Rattle.hevc_pull.specs.Counting.{counted_after, counted_behind, counted_of, first_ended}
use Rattle.hevc_pull.specs.Counting.{without}

-- What is to be told, and what was.
pub record Telling : Type 0 where
  pub view : View Queue ℕ
  -- the pictures that were counted, and whose end wasn't told
  pub counted : List Counted
  -- it was told that the format that is awaited, if any, is
  pub change_told : Bool
  -- an IRAP picture is sought
  pub seeking : Bool

abbrev pub telling : PullDecoder → Telling
telling p = record {
  view = view_in p;
  counted = p.counted.items;
  change_told = p.change_told;
  seeking = p.seeking;
}

-- at the beginning of a stream
abbrev pub nothing_to_tell : Telling
nothing_to_tell = record {
  view = at_beginning new_queue;
  counted = [];
  change_told = false;
  seeking = false;
}

-- the format that is awaited was accepted
abbrev pub decoding_on : Telling → Telling
decoding_on t =
    record t { view = record t.view { state = Decoding }; change_told = false }

-- A unit may have counted a picture, of this timestamp; what was told stays.
pub record Counts (timestamp : ℕ) (before now : PullDecoder) : Type 0 where
  pub counted : now.counted.items
      ≡ counted_behind timestamp (view_in before).standing.next.number
      (view_in now).standing.next.number before.counted.items
  pub change : now.change_told ≡ before.change_told

-- The pictures that were counted, what was told, and what is sought stay.
pub record KeepsCounted (before now : PullDecoder) : Type 0 where
  pub counted : now.counted ≡ before.counted
  pub change : now.change_told ≡ before.change_told
  pub seeking : now.seeking ≡ before.seeking

-- a flush forgets the format that was awaited, and waits for the next sequence
abbrev pub change_behind : {T E : Type 0} → Result T E → Bool → Bool
change_behind (Ok value) told = false
change_behind (Err error) told = told

abbrev pub state_after_flush : {T E : Type 0} → Result T E → State → State
state_after_flush (Ok value) state = Reset
state_after_flush (Err error) state = state

-- with this taken from the backend's queue, and these pictures counted
abbrev pub with_backend : Queue → List Counted → Telling → Telling
with_backend backend counted t =
    record t { view = record t.view { backend = backend }; counted = counted }

-- with the queue of outputs, and these pictures counted
abbrev pub with_outputs : Telling → List Counted → Telling → Telling
with_outputs now counted t =
    record t { view = record t.view { queue = now.view.queue }; counted = counted }

-- outputs are taken now: no event waits, or a sequence begins by the next one
abbrev pub outputs_are_due : List Event → Bool
outputs_are_due [] = true
outputs_are_due (event ∷ events) = event.kind == 1

-- the first event that waits is taken, and all else stays
pub record TakesEvent (event : Event) (before now : Queue) : Type 0 where
  pub first : before.waiting ≡ event ∷ now.waiting
  -- it is the event of what the call at its place in the log was given
  pub told : (d : Given) → event
      ≡ event_of before.counts.taken (slice_index_or before.given before.counts.taken d)
  pub others : now ≡ with_taken (before.counts.taken + 1) now.waiting before

-- it is told: then its picture has begun
pub record Asks (event : Event) (before now : Telling) : Type 0 where
  pub takes : TakesEvent event before.view.backend now.view.backend
  pub others : now ≡ with_backend now.view.backend (counted_after event before.counted) before

-- All events of its calls were taken.
pub record IsEmptied (q : Queue) : Type 0 where
  pub none : q.waiting ≡ []
  pub all : q.counts.taken ≡ length q.given

-- no call waits, and no picture that was output
pub record AreTaken (v : View Queue ℕ) : Type 0 where
  pub calls : IsEmptied v.backend
  pub outputs : v.queue ≡ []

-- the picture whose end is told now, if there is one
abbrev pub ended_in : Telling → Option Counted
ended_in t = first_ended t.view.standing t.counted

-- it is to be told that a format is awaited
abbrev pub is_change_due : Telling → Bool
is_change_due t = is_awaited t.view.state && not t.change_told

-- A picture has ended that isn't output, and is told of no more.
pub record Ends (c : Counted) (before now : Telling) : Type 0 where
  pub taken : AreTaken before.view
  pub first : ended_in before ≡ Some c
  pub others : now ≡ record before { counted = without c.number before.counted }

-- Events come in order. Outputs come in order too: after all events, but before that of a sequence.
-- Then come the pictures that have ended without an output: those that began, and those that didn't.
-- Then it is told, once, that a format is awaited.
abbrev pub PullsNext : Option Pulled → Telling → Telling → Type 0
PullsNext (Some (Asked event)) before now =
    (outputs_are_due before.view.backend.waiting ≡ true → before.view.queue ≡ [])
    × Asks event before now
PullsNext (Some (Output frame counted)) before now =
    (outputs_are_due before.view.backend.waiting ≡ true)
    × (before.view.queue ≡ frame ∷ now.view.queue)
    × (counted ≡ counted_of frame.number before.counted)
    × (now ≡ with_outputs now (without frame.number before.counted) before)
PullsNext (Some (Dropped counted)) before now =
    (counted.is_begun ≡ true) × Ends counted before now
PullsNext (Some (Skipped counted)) before now =
    (counted.is_begun ≡ false) × Ends counted before now
PullsNext (Some FormatChanged) before now =
    AreTaken before.view × (ended_in before ≡ None) × (is_change_due before ≡ true)
    × (now ≡ record before { change_told = true })
PullsNext None before now =
    AreTaken before.view × (ended_in before ≡ None) × (is_change_due before ≡ false)
    × (now ≡ before)
