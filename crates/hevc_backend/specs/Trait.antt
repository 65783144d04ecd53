-- What a call of a backend leaves in its log and in its counts.
use Rattle.std.specs.Prelude.{ℕ, zero, suc, ◌≤◌, ◌≡◌, ◌≢◌, ◌==◌, ◌+◌, ◌-◌, ◌^◌, nat_lt, Bool, false}
use Rattle.std.specs.Prelude.{not, if◌then◌else◌, List, [], ◌∷◌, ◌++◌, Option, Some, None}
use Rattle.std.specs.Prelude.{option_map, Result, Ok, Err}
use Rattle.hevc_fault_counts.specs.Faults.{Rose}
use Rattle.hevc_backend.specs.declared.error.BackendError.{BackendError}
use Rattle.hevc_backend.specs.declared.error.BackendError.TheVariants.{Failed, NoMemory}

-- How many calls failed, and how many questions for free frames were answered by 0.
pub record Counts : Type 0 where
  pub faults : ℕ
  pub empty_answers : ℕ
  -- after how many calls its owner set something of it, if ever: no call changes this
  pub set_after : Option ℕ
  -- of how many calls its owner was told: no call changes this
  pub taken : ℕ

-- those of a backend of which its owner sets nothing, and is told nothing
abbrev pub counts_of : (faults empty_answers : ℕ) → Counts
counts_of faults empty_answers =
    record { faults = faults; empty_answers = empty_answers; set_after = None; taken = 0 }

-- one more, up to 2 ^ 64 - 1
abbrev pub one_more : ℕ → ℕ
one_more n = if nat_lt n (2 ^ 64 - 1) then n + 1 else n

-- The questions for free frames.
pub record Frames : Type 0 where
  -- how many there were, up to 2 ^ 64 - 1, where that is exposed
  pub asked : Option ℕ
  -- the last one found a free frame, and no picture has begun since
  pub found : Bool

abbrev pub asked_more : Option ℕ → Option ℕ
asked_more asked = option_map one_more asked

-- after one more, with this answer
abbrev pub with_question : (answer : ℕ) → Frames → Frames
with_question answer frames =
    record { asked = asked_more frames.asked; found = not (answer == 0) }

-- a picture that begins takes the frame
abbrev pub with_frame_taken : Frames → Frames
with_frame_taken frames = record frames { found = false }

-- the log after some more calls, where it is exposed
abbrev pub logged : {X : Type 0} → Option (List X) → List X → Option (List X)
logged None calls = None
logged (Some log) calls = Some (log ++ calls)

-- a call that succeeds comes after the log, and no other does
abbrev pub Logs : {T X : Type 0} → Option (List X) → Option (List X) → Result T BackendError
    → (T → X) → Type 0
Logs before now (Ok value) call = now ≡ logged before (call value ∷ [])
Logs before now (Err error) call = now ≡ before

-- the count is no lower, and is higher unless it was at its greatest value
abbrev pub Counted : ℕ → ℕ → Type 0
Counted before now = (before ≤ now) × Rose before now

-- the counts are as they were, unless the backend failed: then that of faults rose
abbrev pub CountsFault : Counts → Counts → BackendError → Type 0
CountsFault before now Failed =
    Counted before.faults now.faults × (now ≡ record before { faults = now.faults })
CountsFault before now NoMemory = now ≡ before

abbrev pub CountsFaults : {T : Type 0} → Counts → Counts → Result T BackendError → Type 0
CountsFaults before now (Ok value) = now ≡ before
CountsFaults before now (Err error) = CountsFault before now error

-- the counts are as they were, unless no frame is free: then that of empty answers rose
abbrev pub CountsEmptyAnswers : Counts → Counts → (frames : ℕ) → Type 0
CountsEmptyAnswers before now zero =
    Counted before.empty_answers now.empty_answers
    × (now ≡ record before { empty_answers = now.empty_answers })
CountsEmptyAnswers before now (suc n) = now ≡ before

abbrev pub IsFault : BackendError → Type 0
IsFault Failed = Unit {0}
IsFault NoMemory = ⊥

-- the answer is no fault
abbrev pub HasNoFault : {T : Type 0} → Result T BackendError → Type 0
HasNoFault (Ok value) = Unit {0}
HasNoFault (Err error) = ¬ IsFault error

-- a backend that never fails didn't, and never will
abbrev pub StaysFaultless : {T : Type 0} → Type 0 → Type 0 → Result T BackendError → Type 0
StaysFaultless before now result = before → now × HasNoFault result

-- a backend that never fails has a frame, and never will fail
abbrev pub StaysWithFrames : Type 0 → Type 0 → (frames : ℕ) → Type 0
StaysWithFrames before now frames = before → now × (frames ≢ 0)
