-- What a backend that queues its calls tells.
use Rattle.std.specs.Prelude.{ℕ, Bool, false, List, [], length, drop, map, Option, Some, None}
use Rattle.std.specs.Prelude.{unwrap_or}
use Rattle.std.specs.List.{flat_map}
use Rattle.hevc_backend.specs.declared.call.Call.{Call}
use Rattle.hevc_backend.specs.Handed.{Handed}
use Rattle.hevc_backend.specs.Trait.{Counts, Frames, counts_of}
use Rattle.hevc_events.specs.declared.event.Event.{Event}
use Rattle.hevc_queue.specs.declared.given.Given.{Given}
use Rattle.hevc_queue.specs.Given.{call_of, handed_in}

pub record Queue : Type 0 where
  -- what the calls that it took were given
  pub given : List Given
  -- those of their events that wait, in order
  pub waiting : List Event
  -- how many frames are free: as it was told, less the pictures that began since
  pub free_frames : ℕ
  -- with after how many calls the structs of Linux's stateless decoders were wanted, and how many
  -- events were taken from the queue
  pub counts : Counts
  -- how often it was asked for free frames, and whether a picture may begin
  pub frames : Frames

-- its calls, and what was handed over with them
abbrev pub log_of : Queue → List (Call ℕ)
log_of q = map call_of q.given

abbrev pub handed_of : Queue → List Handed
handed_of q = flat_map handed_in q.given

-- no call was made, and no frame is free
abbrev pub new_queue : Queue
new_queue = record {
  given = [];
  waiting = [];
  free_frames = 0;
  counts = counts_of 0 0;
  frames = record { asked = Some 0; found = false };
}

-- so many of their events were taken, and these wait
abbrev pub with_taken : ℕ → List Event → Queue → Queue
with_taken taken waiting q =
    record q { waiting = waiting; counts = record q.counts { taken = taken } }

-- structs are wanted after so many calls, or weren't yet
abbrev pub with_controls_after : Option ℕ → Queue → Queue
with_controls_after calls q = record q { counts = record q.counts { set_after = calls } }

-- from here on, if they weren't before
abbrev pub with_controls : Queue → Queue
with_controls q = with_controls_after (Some (unwrap_or q.counts.set_after (length q.given))) q

-- what the calls were given after the first so many
abbrev pub given_after : Option ℕ → List Given → List Given
given_after None given = []
given_after (Some calls) given = drop calls given

-- what the calls were given since structs are wanted
abbrev pub given_wanted : Queue → List Given
given_wanted q = given_after q.counts.set_after q.given
