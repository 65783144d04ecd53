-- What the calls of a decoder do, as C sees them.
use Rattle.std.specs.Prelude.{◌≡◌, ◌⊎◌, ℕ, ◌≤◌, ◌<◌, ◌^◌, List, [], ◌∷◌, length, Option, Some, None}
use Rattle.std.specs.Prelude.{Bool, Result, Ok, Err}
use Rattle.hevc_spec.specs.Units.{NalUnit, units}
use Rattle.hevc_spec.specs.UnitHeader.{unit_header}
use Rattle.hevc_stream.specs.Options.{Options}
use Rattle.hevc_driver.specs.declared.decode_error.DecodeError.{DecodeError}
use Rattle.hevc_driver.specs.declared.decode_error.DecodeError.TheVariants.{NoNal}
use Rattle.hevc_driver.specs.Given.{Given}
use Rattle.hevc_stateless.specs.declared.state.State.TheVariants.{AwaitingFormat}
use Rattle.hevc_stateless.specs.Flushes.{Flushes}
use Rattle.hevc_stateless.specs.Steps.{Seen}
use Rattle.hevc_pull.specs.Seeking.{SoughtBehind, seeks_after, seeks_behind}
use Rattle.hevc_events.specs.declared.event.Event.{Event}
use Rattle.hevc_events.specs.Plain.{bare_event, event_of_picture}
use Rattle.hevc_pull.specs.declared.decoder.PullDecoder.{PullDecoder}
use Rattle.hevc_pull.specs.declared.pulled.Pulled.{Pulled}
use Rattle.hevc_pull.specs.declared.counted.Counted.{Counted}
use Rattle.hevc_pull.specs.declared.pulled.Pulled.TheVariants.{Asked, Output, Dropped, Skipped}
use Rattle.hevc_pull.specs.declared.pulled.Pulled.TheVariants.{FormatChanged}
use Rattle.hevc_pull.specs.Pulling.{Counts, PullsNext, change_behind, decoding_on}
use Rattle.hevc_pull.specs.Pulling.{state_after_flush, telling}
use Rattle.hevc_pull.specs.Views.{kept_of, options_for, seen_of, pulled_traces, view_in}
use Rattle.hevc_pull.specs.Views.{with_free_frames, KeepsTold}
use Rattle.hevc_pull.specs.declared.extent.Extent.{Extent}
use Rattle.hevc_pull.specs.Extents.{first_extent, no_extent}
use Rattle.hevc_pull.specs.Units.{GoesOnAt}
use Rattle.hevc_pull.specs.declared.calls.DecodeCall.{DecodeCall}
use Rattle.hevc_pull.specs.Status.{row_of, status_in, table_of}

-- a call that tells where a unit lies
abbrev pub with_extent : Extent → DecodeCall → DecodeCall
with_extent e call = record call { offset = e.offset; size = e.size; next = e.next }

-- a call that is answered by nothing but its status
abbrev pub unanswered : DecodeCall → DecodeCall
unanswered call = record (with_extent no_extent call) { table = 0; row = 0 }

-- what goes with an answer: where the first of these units lies, refused or not, and the table and
-- the row of an error
abbrev pub answered : {T : Type 0} → List NalUnit → Result T DecodeError → DecodeCall → DecodeCall
answered us (Ok value) call = with_extent (first_extent us) (unanswered call)
answered us (Err error) call =
    record (with_extent (first_extent us) (unanswered call)) {
      table = table_of error;
      row = row_of error;
    }

-- The first of these units was given; or there is none, and nothing else has changed.
abbrev pub DecodesFirst : {B H T : Type 0} → List NalUnit → Result T DecodeError → (timestamp : ℕ)
    → Options → (seeking : Bool) → Seen B H → Seen B H → Type 0
DecodesFirst [] result timestamp options seeking old new = (result ≡ Err NoNal) × (new ≡ old)
DecodesFirst (u ∷ others) result timestamp options seeking old new =
    SoughtBehind (unit_header u.bytes) result timestamp options seeking u.bytes old new

-- whether an IRAP picture is sought after it
abbrev pub seeks_first : List NalUnit → Bool → Bool
seeks_first [] seeking = seeking
seeks_first (u ∷ others) seeking = seeks_behind (unit_header u.bytes) seeking

-- The first unit of the bytes was taken; the status is that of the answer, and the call tells where
-- the unit lies, and from where on the others do.
pub record DecodesUnit (bytes : List ℕ) (before now : PullDecoder) (given told : DecodeCall)
    (status : ℕ) : Type 0 where
  pub answer : Result (Unit {0}) DecodeError
  pub few : length bytes < 2 ^ 60
  pub takes : DecodesFirst (units bytes) answer given.timestamp (options_for before)
      before.seeking (with_free_frames given.free_frames (seen_of before)) (seen_of now)
  pub seeking : now.seeking ≡ seeks_first (units bytes) before.seeking
  pub keeps : KeepsTold before now
  pub counts : Counts given.timestamp before now
  pub options : options_for now ≡ options_for before
  pub status_is : status ≡ status_in answer
  pub told_is : told ≡ answered (units bytes) answer given
  pub goes_on : GoesOnAt told.next (units bytes) bytes

-- Of too many bytes nothing is taken.
abbrev pub Decodes : (bytes : List ℕ) → (before now : PullDecoder) → (given told : DecodeCall)
    → (status : ℕ) → Type 0
Decodes bytes before now given told status =
    DecodesUnit bytes before now given told status
    ⊎ ((2 ^ 60 ≤ length bytes) × (status ≡ 17) × (now ≡ before) × (told ≡ unanswered given))

-- an event of a picture that was counted
abbrev pub event_of_counted : (kind : ℕ) → Counted → Event
event_of_counted kind c =
    record (event_of_picture 0 kind c.number) { timestamp = c.timestamp }

-- what came of units as an event
abbrev pub event_of_pulled : Pulled → Event
event_of_pulled (Asked event) = event
event_of_pulled (Output frame counted) =
    record (event_of_picture 0 6 frame.number) {
      order_count = frame.order_count;
      timestamp = counted.timestamp;
      width = counted.width;
      height = counted.height;
      window = counted.window;
    }
event_of_pulled FormatChanged = bare_event 0 7
event_of_pulled (Dropped counted) = event_of_counted 8 counted
event_of_pulled (Skipped counted) = event_of_counted 9 counted

-- the answer tells whether there is one, and the event which
abbrev pub TellsPulled : Option Pulled → (old new : Event) → (answer : ℕ) → Type 0
TellsPulled (Some pulled) old new answer = (answer ≡ 1) × (new ≡ event_of_pulled pulled)
TellsPulled None old new answer = (answer ≡ 0) × (new ≡ old)

pub record TakesNext (before now : PullDecoder) (old new : Event) (answer : ℕ) : Type 0 where
  pub pulled : Option Pulled
  pub pulls : PullsNext pulled (telling before) (telling now)
  pub tells : TellsPulled pulled old new answer
  pub kept : kept_of now ≡ kept_of before
  pub options : options_for now ≡ options_for before

-- The open picture is over, and all that waits is output; what was told stays.
pub record IsFlushed (answer : Result (Unit {0}) DecodeError) (before now : PullDecoder)
    : Type 0 where
  pub flushes : (given : Given) → Flushes answer given (pulled_traces before) (pulled_traces now)
      (view_in before).state (view_in before).standing (view_in now).standing
  pub latest : (view_in now).latest ≡ (view_in before).latest
  pub state : (view_in now).state ≡ state_after_flush answer (view_in before).state
  pub keeps : KeepsTold before now
  pub counted : now.counted ≡ before.counted
  pub change : now.change_told ≡ change_behind answer before.change_told
  pub kept : kept_of now ≡ kept_of before
  pub options : options_for now ≡ options_for before

-- All is output, and a sequence parameter set or an IDR picture is waited for.
pub record FlushesAll (before now : PullDecoder) (status : ℕ) : Type 0 where
  pub answer : Result (Unit {0}) DecodeError
  pub flushed : IsFlushed answer before now
  pub seeking : now.seeking ≡ before.seeking
  pub status_is : status ≡ status_in answer

-- All is output, and an IRAP picture is sought.
pub record SeeksNext (before now : PullDecoder) (status : ℕ) : Type 0 where
  pub answer : Result (Unit {0}) DecodeError
  pub flushed : IsFlushed answer before now
  pub seeking : now.seeking ≡ seeks_after answer before.seeking
  pub status_is : status ≡ status_in answer

-- a format that is awaited is accepted, and else nothing is changed
pub record Accepts (before now : PullDecoder) (status : ℕ) : Type 0 where
  pub accepted : (view_in before).state ≡ AwaitingFormat
      → (status ≡ 0) × (telling now ≡ decoding_on (telling before))
  pub refused : ((view_in before).state ≡ AwaitingFormat → ⊥) → (status ≡ 16) × (now ≡ before)
  pub kept : kept_of now ≡ kept_of before
  pub options : options_for now ≡ options_for before
