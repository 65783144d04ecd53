-- What contracts see of a stream that is being decoded.
use Rattle.std.specs.Prelude.{◌≡◌, ℕ, ◌+◌, ◌≤◌, ◌==◌, ◌&&◌, Bool, List, [], ◌∷◌, length, Option, Some}
use Rattle.std.specs.Prelude.{None, Result, true}
use Rattle.std.specs.List.{list_any}
use Rattle.hevc_walk.specs.Buffer.{Buffer}
use Rattle.hevc_dpb.specs.declared.entry.DpbEntry.{DpbEntry}
use Rattle.hevc_walk_units.specs.Units as units
use Rattle.hevc_walk_units.specs.Units.{Standing, at_first}
use Rattle.hevc_bumping.specs.declared.frame.Frame.{Frame}
use Rattle.hevc_records.specs.SliceHeader.{PlainSliceSegmentHeader}
use Rattle.hevc_backend.specs.declared.call.Call.{Call}
use Rattle.hevc_backend.specs.Handed.{Handed}
use Rattle.hevc_backend.specs.Trait.{Counts, Frames}
use Rattle.hevc_driver.specs.Answers.{IsFair}
use Rattle.hevc_driver.specs.Does.{Traces}
use Rattle.hevc_driver.specs.declared.decode_error.DecodeError.{DecodeError}
use Rattle.hevc_stateless.specs.declared.state.State.{State}
use Rattle.hevc_stateless.specs.States.{decoding_again}
use Rattle.hevc_stateless.specs.declared.state.State.TheVariants.{AwaitingStreamInfo}

pub record View (B H : Type 0) : Type 0 where
  pub backend : B
  -- what is waited for
  pub state : State
  -- what the pictures so far mean for those to come; a format that is awaited counts as accepted
  pub standing : Standing
  -- the pictures that were output and weren't taken yet
  pub queue : List (Frame H)
  -- the numbers of the stored pictures, with their handles
  pub tickets : List (ℕ × H)
  -- what dependent slice segments take from the latest independent one (7.4.7.1)
  pub latest : Option PlainSliceSegmentHeader

-- at the beginning of a stream
abbrev pub at_beginning : {B H : Type 0} → B → View B H
at_beginning backend = record {
  backend = backend;
  state = AwaitingStreamInfo;
  standing = at_first;
  queue = [];
  tickets = [];
  latest = None;
}

-- all that decoding may change, where the backend exposes this log, this as what it was handed, and
-- this as how often it was asked for free frames
abbrev pub traces_of : {B H : Type 0} → Option (List (Call H)) → Option (List Handed)
    → (asked : Option ℕ) → View B H → Traces H
traces_of log handed asked v =
    record { log = log; handed = handed; asked = asked; queue = v.queue; tickets = v.tickets }

-- the next picture begins a coded video sequence, as after an end of sequence (8.1.3)
abbrev pub begun_again : {B H : Type 0} → View B H → View B H
begun_again v = record v {
  state = decoding_again v.state;
  standing = record v.standing { next = record v.standing.next { first_after_end = true } };
}

-- What taking a unit may change: the traces, what the pictures so far mean, the state, and what
-- dependent slice segments take (7.4.7.1).
pub record Moment (H : Type 0) : Type 0 where
  pub traces : Traces H
  pub standing : Standing
  pub state : State
  pub latest : Option PlainSliceSegmentHeader

abbrev pub moment_of : {B H : Type 0} → Option (List (Call H)) → Option (List Handed)
    → (asked : Option ℕ) → View B H → Moment H
moment_of log handed asked v = record {
  traces = traces_of log handed asked v;
  standing = v.standing;
  state = v.state;
  latest = v.latest;
}

-- where backends expose these logs, and this of the questions for frames
abbrev pub traces_at : {B H : Type 0} → (log : B → Option (List (Call H)))
    → (handed : B → Option (List Handed)) → (frames : B → Frames) → View B H → Traces H
traces_at log handed frames v =
    traces_of (log v.backend) (handed v.backend) (frames v.backend).asked v

abbrev pub moment_at : {B H : Type 0} → (log : B → Option (List (Call H)))
    → (handed : B → Option (List Handed)) → (frames : B → Frames) → View B H → Moment H
moment_at log handed frames v =
    moment_of (log v.backend) (handed v.backend) (frames v.backend).asked v

-- At most 17 pictures were output: the 16 that may be stored, and one more.
abbrev pub OutputsFew : {B H : Type 0} → View B H → View B H → Type 0
OutputsFew old new = length new.queue ≤ length old.queue + 17

-- before the first sequence set no picture is open
abbrev pub IsIdleBefore : State → units.Current → Type 0
IsIdleBefore AwaitingStreamInfo current = current ≡ units.NoPicture
IsIdleBefore state current = Unit {0}

-- an entry has this number, and is needed for output
abbrev pub waits_as : {T : Type 0} → (number : ℕ) → DpbEntry T → Bool
waits_as number e = e.number == number && e.picture.needed_for_output

-- a picture of this number is stored, and needed for output
abbrev pub is_waiting : (number : ℕ) → Buffer → Bool
is_waiting number buffer = list_any (λ e. e.number == number && e.needed_for_output) buffer

-- the front of the queue leaves it
abbrev pub PopsFrame : {H : Type 0} → Option (Frame H) → List (Frame H) → List (Frame H) → Type 0
PopsFrame (Some frame) before now = before ≡ frame ∷ now
PopsFrame None before now = (before ≡ []) × (now ≡ [])

-- what an answer says of the backend of what contracts see
abbrev pub IsFairSeen : {B H I T : Type 0} → (counts : B → Counts) → (is_faultless : B → Type 0)
    → (tells : B → I) → (before now : View B H) → Result T DecodeError → Type 0
IsFairSeen counts is_faultless tells before now result =
    IsFair counts is_faultless tells before.backend now.backend result
