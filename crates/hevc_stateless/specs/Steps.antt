-- What a call of `decode` does.
use Rattle.std.specs.Prelude.{◌≡◌, ◌⊎◌, ℕ, ◌+◌, List, [], ◌∷◌, length, Option, Result, Ok, Err}
use Rattle.std.specs.Prelude.{IfOk, true, false}
use Rattle.hevc_spec.specs.Units.{NalUnit}
use Rattle.hevc_spec.specs.UnitHeader.{UnitHeader, HeaderFault, unit_header}
use Rattle.hevc_walk.specs.Meanings.{Meaning}
use Rattle.hevc_stream.specs.Options.{Options}
use Rattle.hevc_stream.specs.Kept.{Kept, with_sequence_set}
use Rattle.hevc_stream.specs.Contents.{Content, sequence_set, header_cause, content}
use Rattle.hevc_stream.specs.Stream.{kept_behind}
use Rattle.hevc_kept_sets.specs.declared.kept_sets.KeptSets.{KeptSets}
use Rattle.hevc_kept_sets.specs.Kept.{kept_of}
use Rattle.hevc_kept_sets.specs.Takes.{StopsReading}
use Rattle.hevc_backend.specs.declared.call.Call.{Call}
use Rattle.hevc_backend.specs.Handed.{Handed}
use Rattle.hevc_records.specs.SliceHeader.{PlainSliceSegmentHeader}
use Rattle.hevc_driver.specs.declared.decode_error.DecodeError.{DecodeError}
use Rattle.hevc_driver.specs.declared.decode_error.DecodeError.TheVariants as errors
use Rattle.hevc_driver.specs.Errors.{cause_error}
use Rattle.hevc_driver.specs.Given.{Given}
use Rattle.hevc_driver.specs.Takes.{Takes}
use Rattle.hevc_stateless.specs.declared.state.State.{State}
use Rattle.hevc_stateless.specs.States.{unit_at, meaning_in, state_behind, MovesBy, is_awaited}
use Rattle.hevc_stateless.specs.Segments.{latest_at, own_header, read_at, given_with}
use Rattle.hevc_stateless.specs.Views.{View, Moment, moment_of}

-- a sequence set that was read is kept
abbrev pub with_read_set : Content → Kept → Kept
with_read_set (sequence_set set) kept = with_sequence_set set kept
with_read_set other kept = kept

-- What is kept after a unit by the answer to it. A sequence set stays kept where its format is
-- refused or awaited, and where an allocation fails as the units that wait are read.
abbrev pub KeepsBehind : {T : Type 0} → Result T DecodeError → Options → List ℕ → Kept → Kept
    → Type 0
KeepsBehind (Ok value) options bytes old new = new ≡ kept_behind options old bytes
KeepsBehind (Err errors.CheckEvents) options bytes old new =
    new ≡ with_read_set (content options old bytes) old
KeepsBehind (Err errors.Backend) options bytes old new =
    new ≡ with_read_set (content options old bytes) old
KeepsBehind (Err errors.NoMemory) options bytes old new =
    (new ≡ old)
    ⊎ ((new ≡ with_read_set (content options old bytes) old)
    ⊎ StopsReading options (with_read_set (content options old bytes) old) new)
KeepsBehind (Err error) options bytes old new = new ≡ old

-- What a decoder is seen by: what its backend tells, its view and what it keeps.
pub record Seen (B H : Type 0) : Type 0 where
  pub log : Option (List (Call H))
  pub handed : Option (List Handed)
  -- how often the backend was asked for free frames
  pub asked : Option ℕ
  pub view : View B H
  pub kept : Kept

abbrev pub seen : {B H : Type 0} → Option (List (Call H)) → Option (List Handed)
    → (asked : Option ℕ) → View B H → KeptSets → Seen B H
seen log handed asked view sets = record {
  log = log;
  handed = handed;
  asked = asked;
  view = view;
  kept = kept_of sets;
}

-- the errors of a parameter set's unit
abbrev pub IsOfSet : DecodeError → Type 0
IsOfSet errors.OutOfBits = Unit {0}
IsOfSet (errors.OutOfRange table row) = Unit {0}
IsOfSet errors.NoMemory = Unit {0}
IsOfSet error = ⊥

-- A unit of this meaning was taken, which this state follows; if it is a slice segment, this header
-- was read of it, which is kept whatever the answer is (7.4.7.1).
pub record Acts {H T : Type 0} (result : Result T DecodeError) (given : Given) (u : Meaning)
    (own : Option PlainSliceSegmentHeader) (behind : State) (old new : Moment H) : Type 0 where
  pub part : Takes result given old.traces new.traces u old.standing new.standing
  pub state : MovesBy result behind new.state
  pub latest : new.latest ≡ latest_at u own old.latest

-- it was, or nothing has changed, since an allocation failed before a call of the backend
abbrev pub TakesIn : {H T : Type 0} → Result T DecodeError → Given → Meaning
    → (own : Option PlainSliceSegmentHeader) → State → Moment H → Moment H → Type 0
TakesIn {H} {T} (Err errors.NoMemory) given u own behind old new =
    (new ≡ old) ⊎ Acts {T = T} (Err errors.NoMemory) given u own behind old new
TakesIn result given u own behind old new = Acts result given u own behind old new

-- A unit of this header and these bytes was taken with this, while no format is awaited.
pub record Step {B H T : Type 0} (result : Result T DecodeError) (given : Given) (options : Options)
    (header : UnitHeader) (bytes : List ℕ) (old new : Seen B H) : Type 0 where
  pub takes : TakesIn result given
      (meaning_in old.view.state (unit_at options old.kept header bytes))
      (own_header options old.kept bytes)
      (state_behind old.view.state (unit_at options old.kept header bytes))
      (moment_of old.log old.handed old.asked old.view)
      (moment_of new.log new.handed new.asked new.view)
  pub kept : KeepsBehind result options bytes old.kept new.kept

-- what comes with a unit of this header and these bytes
abbrev pub given_to : {B H : Type 0} → (timestamp : ℕ) → Options → UnitHeader → (bytes : List ℕ)
    → Seen B H → Given
given_to timestamp options header bytes old =
    given_with timestamp (meaning_in old.view.state (unit_at options old.kept header bytes))
    (read_at options old.kept old.view.latest bytes) old.view.standing

-- A unit of this header and these bytes was given: a format that is awaited comes before it.
pub record StepsIn {B H T : Type 0} (result : Result T DecodeError) (timestamp : ℕ)
    (options : Options) (header : UnitHeader) (bytes : List ℕ) (old new : Seen B H) : Type 0 where
  pub awaited : is_awaited old.view.state ≡ true → (result ≡ Err errors.CheckEvents) × (new ≡ old)
  pub taken : is_awaited old.view.state ≡ false
      → Step result (given_to timestamp options header bytes old) options header bytes old new

-- a header that is refused comes before all else (7.3.1.2)
abbrev pub StepsBehind : {B H T : Type 0} → Result UnitHeader HeaderFault → Result T DecodeError → ℕ
    → Options → List ℕ → Seen B H → Seen B H → Type 0
StepsBehind (Err fault) result timestamp options bytes old new =
    (result ≡ Err (cause_error (header_cause fault))) × (new ≡ old)
StepsBehind (Ok header) result timestamp options bytes old new =
    StepsIn result timestamp options header bytes old new

-- The first of these units was taken, and the answer is the place after it; or there is none.
abbrev pub TakesFirst : {B H : Type 0} → List NalUnit → Result ℕ DecodeError → ℕ → Options
    → Seen B H → Seen B H → Type 0
TakesFirst [] result timestamp options old new = (result ≡ Err errors.NoNal) × (new ≡ old)
TakesFirst (u ∷ us) result timestamp options old new =
    StepsBehind (unit_header u.bytes) result timestamp options u.bytes old new
    × IfOk result (λ place. place ≡ u.offset + length u.bytes)
