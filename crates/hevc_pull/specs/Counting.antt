-- The pictures that were counted, and whose end wasn't told.
use Rattle.std.specs.Prelude.{ℕ, ◌==◌, ◌&&◌, Bool, true, false, not, List, [], ◌∷◌, ◌++◌, map}
use Rattle.std.specs.Prelude.{filter, if◌then◌else◌, Option, unwrap_or}
use Rattle.std.specs.List.{find}
use Rattle.hevc_walk_units.specs.Units.{Standing}
use Rattle.hevc_walk_frames.specs.Coming.{is_coming}
use Rattle.hevc_events.specs.declared.event.Event.{Event}
use Rattle.hevc_events.specs.Plain.{no_window}
use Rattle.hevc_pull.specs.declared.counted.Counted.{Counted}

-- a picture has this number
abbrev pub has_number : (number : ℕ) → Counted → Bool
has_number number c = c.number == number

-- a picture of which this is known, and no more
abbrev pub counted_with : (number timestamp : ℕ) → Counted
counted_with number timestamp = record {
  number = number;
  timestamp = timestamp;
  is_begun = false;
  width = 0;
  height = 0;
  window = no_window;
}

-- what is known of the picture of this number
abbrev pub counted_of : (number : ℕ) → List Counted → Counted
counted_of number cs = unwrap_or (find (has_number number) cs) (counted_with number 0)

-- A unit counted a picture where the number of the next one has changed (8.1.3): it is the last.
abbrev pub counted_behind : (timestamp before now : ℕ) → List Counted → List Counted
counted_behind timestamp before now cs =
    if now == before then cs
    else cs ++ counted_with before timestamp ∷ []

-- all but the picture of this number
abbrev pub without : (number : ℕ) → List Counted → List Counted
without number cs = filter (λ c. not (has_number number c)) cs

-- An event that a picture begins tells by its flag too whether it is to be output (PicOutputFlag); if
-- it isn't, nothing else is told of its end.
abbrev pub is_hiding : Event → Bool
is_hiding event = event.kind == 2 && event.is_output == 0

-- the picture has the size that came with its reference picture set
abbrev pub with_size : Event → Counted → Counted
with_size event c =
    record c { width = event.width; height = event.height; window = event.window }

-- what is known of the picture of an event
abbrev pub told_by : Event → Counted → Counted
told_by event c =
    if event.kind == 2 then record c { is_begun = true }
    else if event.kind == 3 then with_size event c
    else c

-- and of any picture after an event
abbrev pub told_if_own : Event → Counted → Counted
told_if_own event c = if has_number event.number c then told_by event c else c

abbrev pub counted_after : Event → List Counted → List Counted
counted_after event cs =
    if is_hiding event then without event.number cs else map (told_if_own event) cs

-- it isn't to come any more: its slices don't come, and it isn't needed for output
abbrev pub has_ended : Standing → Counted → Bool
has_ended s c = not (is_coming s c.number)

-- the first whose end is due
abbrev pub first_ended : Standing → List Counted → Option Counted
first_ended s cs = find (has_ended s) cs
