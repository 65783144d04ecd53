-- Events that wait to be taken.
use Rattle.std.specs.Prelude.{ℕ, ◌+◌, ◌==◌, Bool, false, List, [], ◌∷◌, ◌++◌, length, refl}
use Rattle.std.specs.Coded.{Coded, code_by, coded×, coded_ℕ, coded_list}
use Rattle.hevc_events.specs.declared.event.Event.{Event}
use Rattle.hevc_events.specs.contracts.event.Event as event_type

pub record Waiting : Type 0 where
  -- how many were taken before
  pub taken : ℕ
  -- those that wait, in the order in which they were put
  pub events : List Event

-- none was put
abbrev pub no_event : Waiting
no_event = record { taken = 0; events = [] }

-- the place of the next event: how many were put, taken or not
abbrev pub next_place : Waiting → ℕ
next_place w = w.taken + length w.events

-- with one more, after the others
abbrev pub with_event : Waiting → Event → Waiting
with_event w event = record w { events = w.events ++ event ∷ [] }

-- with all of them taken
abbrev pub all_taken : Waiting → Waiting
all_taken w = record { taken = next_place w; events = [] }

-- a sequence begins by the first event
abbrev pub sequence_is_next : List Event → Bool
sequence_is_next [] = false
sequence_is_next (event ∷ events) = event.kind == 1

-- by what a proof tells them apart: their fields
pub waiting_code : Coded Waiting
waiting_code =
    code_by (ℕ × List Event)
    (coded× coded_ℕ (coded_list event_type.the_row.coded))
    (λ w. (w.taken, w.events))
    (λ f. record { taken = f.0; events = f.1 })
    (λ _. refl)
