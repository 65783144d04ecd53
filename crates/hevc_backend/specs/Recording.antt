-- A backend that records its calls, and what a call changes of it.
use Rattle.std.specs.Prelude.{◌≡◌, ℕ, ◌+◌, ◌-◌, ◌^◌, Bool, true, false, ◌&&◌, not, ◌==◌, nat_lt}
use Rattle.std.specs.Prelude.{List, [], ◌∷◌, ◌++◌, drop, Option, Some, None, Result, Ok, Err}
use Rattle.std.specs.Prelude.{if◌then◌else◌}
use Rattle.std.specs.List.{list_any}
use Rattle.hevc_sequence_set.specs.declared.sps.Sps.{Sps}
use Rattle.hevc_sequence_set.specs.Sps.{plain_sps}
use Rattle.hevc_backend.specs.declared.error.BackendError.{BackendError}
use Rattle.hevc_backend.specs.declared.error.BackendError.TheVariants.{Failed, NoMemory}
use Rattle.hevc_backend.specs.declared.stream_info.StreamInfo.{StreamInfo}
use Rattle.hevc_backend.specs.declared.call.Call.{Call}
use Rattle.hevc_backend.specs.Negotiation.{stream_info_of_set}
use Rattle.hevc_backend.specs.Trait.{Counts, counts_of, one_more, Frames, with_question}
use Rattle.hevc_backend.specs.Trait.{with_frame_taken}

pub record Recording : Type 0 where
  pub log : List (Call ℕ)
  -- which calls are to fail, numbered from 1
  pub failing : List ℕ
  -- how many calls were made, failed ones included, up to 2 ^ 64 - 1
  pub made : ℕ
  -- the next numbers of free frames; 16 after them
  pub free : List ℕ
  pub counts : Counts
  pub frames : Frames
  pub info : Option StreamInfo

-- nothing was recorded
abbrev pub planned : (failing free : List ℕ) → Recording
planned failing free = record {
  log = [];
  failing = failing;
  made = 0;
  free = free;
  counts = counts_of 0 0;
  frames = record { asked = Some 0; found = false };
  info = None;
}

-- the next call has a number, and is to fail
abbrev pub fails_next : Recording → Bool
fails_next r = nat_lt r.made (2 ^ 64 - 1) && list_any (λ n. n == r.made + 1) r.failing

abbrev pub with_call_made : Recording → Recording
with_call_made r = record r { made = one_more r.made }

abbrev pub with_fault : Recording → Recording
with_fault r =
    record (with_call_made r) { counts = record r.counts { faults = one_more r.counts.faults } }

-- after a call that gave this answer: a call that succeeds is recorded,
-- and one that fails is counted
abbrev pub behind : {T : Type 0} → (T → Call ℕ) → Recording → Result T BackendError → Recording
behind call r (Ok value) = record (with_call_made r) { log = r.log ++ call value ∷ [] }
behind call r (Err Failed) = with_fault r
behind call r (Err NoMemory) = with_call_made r

-- the info is that of the sequence that began
abbrev pub with_info : {T : Type 0} → Sps → Result T BackendError → Recording → Recording
with_info sps (Ok value) r = record r { info = Some (stream_info_of_set (plain_sps sps)) }
with_info sps (Err error) r = r

-- a picture that begins takes the frame
abbrev pub with_room_taken : {T : Type 0} → Result T BackendError → Recording → Recording
with_room_taken (Ok value) r = record r { frames = with_frame_taken r.frames }
with_room_taken (Err error) r = r

abbrev pub is_failed : {T : Type 0} → Result T BackendError → Bool
is_failed (Ok value) = false
is_failed (Err Failed) = true
is_failed (Err NoMemory) = false

-- the next answer to a question for free frames
abbrev pub next_free : List ℕ → ℕ
next_free [] = 16
next_free (n ∷ ns) = n

abbrev pub with_answer : (frames : ℕ) → Counts → Counts
with_answer frames counts =
    if frames == 0 then record counts { empty_answers = one_more counts.empty_answers } else counts

-- after a question for free frames
abbrev pub asked : Recording → Recording
asked r = record r {
  free = drop 1 r.free;
  frames = with_question (next_free r.free) r.frames;
  counts = with_answer (next_free r.free) r.counts;
}

-- no call is to fail, and there are always frames
abbrev pub IsFaultless : Recording → Type 0
IsFaultless r = (r.failing ≡ []) × (r.free ≡ [])
