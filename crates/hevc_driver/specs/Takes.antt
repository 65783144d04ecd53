-- What the driver does with a unit, by its answer.
use Rattle.std.specs.Prelude.{◌≡◌, ◌≢◌, ◌⊎◌, ℕ, ◌-◌, ◌^◌, Bool, true, false, List, [], ◌∷◌, Option}
use Rattle.std.specs.Prelude.{Some, None, Result, Ok, Err}
use Rattle.hevc_walk.specs.Meanings.{Format, Slice, Meaning}
use Rattle.hevc_walk.specs.Pictures.{head}
use Rattle.hevc_walk.specs.Walk as walk
use Rattle.hevc_walk.specs.Walk.{Event, Called, is_accepted, change_format}
use Rattle.hevc_walk.specs.Refusals.{Cause, PocOutOfRange, ChangedMidPicture, refusal_of_picture}
use Rattle.hevc_walk_units.specs.Units.{Standing, on_store, finish_current, begin_slice}
use Rattle.hevc_walk_units.specs.Units.{later_slice, refusal_of_later, is_full_now, is_full_at}
use Rattle.hevc_walk_units.specs.Units.{refusal_at}
use Rattle.hevc_backend.specs.declared.negotiation.NegotiationInfo.{NegotiationInfo}
use Rattle.hevc_backend.specs.Negotiation.{format_of}
use Rattle.hevc_driver.specs.declared.decode_error.DecodeError.{DecodeError}
use Rattle.hevc_driver.specs.declared.decode_error.DecodeError.TheVariants as errors
use Rattle.hevc_driver.specs.Errors.{error_of}
use Rattle.hevc_driver.specs.Given.{Given}
use Rattle.hevc_driver.specs.Does.{Traces, Does, Stops, StopsBy, Completes, Runs, questioned}
use Rattle.hevc_driver.specs.Does.{questioned_if}
use Rattle.hevc_driver.specs.Moments.{begins_at, negotiates, spends, opening, step_part}
use Rattle.hevc_driver.specs.Moments.{kept_behind, not_stored, left_at, left_by, given_up, drained}
use Rattle.hevc_driver.specs.Moments.{renegotiates, starts, closes}

-- A unit that begins a picture asks once for free frames, before all that it asks for the picture.
abbrev pub asking : {H : Type 0} → Meaning → Standing → Traces H → Traces H
asking u before old = questioned_if (begins_at u before) old

-- The unit was taken.
pub record Goes {H : Type 0} (given : Given) (old new : Traces H) (u : Meaning)
    (before standing : Standing) : Type 0 where
  pub accepted : negotiates u before ≡ false
  pub room : is_full_at u before ≡ false
  pub numbered : spends u before ≡ false
  pub goes_on : refusal_at u before ≡ None
  pub completes : Completes given (asking u before old) new (step_part u before) standing

-- A format was negotiated, and is awaited. The unit is to be given once more.
pub record Opens {H : Type 0} (given : Given) (old new : Traces H) (u : Meaning)
    (before standing : Standing) : Type 0 where
  pub negotiates : negotiates u before ≡ true
  pub room : is_full_at u before ≡ false
  pub completes : Completes given (asking u before old) new (opening u before) standing

-- The picture before was to be stored into a full buffer: it was submitted, and no more.
pub record Fills {H : Type 0} (given : Given) (old new : Traces H) (plan : List Event)
    (before standing : Standing) : Type 0 where
  pub number : ℕ
  pub rest : List Event
  pub whole : plan ≡ Called (walk.SubmitPicture number) ∷ rest
  pub does : Does given old new (Called (walk.SubmitPicture number) ∷ [])
  pub left : standing ≡ not_stored before

-- A picture begins, what was before it is over, and frames were asked for.
pub record Halts {H : Type 0} (given : Given) (old new : Traces H) (u : Meaning)
    (before standing : Standing) : Type 0 where
  pub begins : begins_at u before ≡ true
  pub room : is_full_at u before ≡ false
  pub does : Does given (questioned old) new (finish_current (kept_behind u before)).events
  pub left : standing ≡ (finish_current (kept_behind u before)).next

-- No number is left for a picture that begins.
pub record Spends {H : Type 0} (given : Given) (old new : Traces H) (u : Meaning)
    (before standing : Standing) : Type 0 where
  pub spent : spends u before ≡ true
  pub halts : Halts given old new u before standing

-- The unit was refused for a cause.
pub record Refuses {H : Type 0} (error : DecodeError) (given : Given) (old new : Traces H)
    (u : Meaning) (before standing : Standing) : Type 0 where
  pub accepted : negotiates u before ≡ false
  pub room : is_full_at u before ≡ false
  pub numbered : spends u before ≡ false
  pub cause : Cause
  pub refused : refusal_at u before ≡ Some cause
  pub named : error_of cause ≡ error
  pub does : Does given (asking u before old) new (step_part u before).events
  pub left : standing ≡ left_by cause u before

-- a number was left for the picture of a refused call; one that is submitted has its own
abbrev pub IsNumbered : walk.Call → Meaning → Standing → Type 0
IsNumbered (walk.SubmitPicture number) u before = Unit {0}
IsNumbered call u before = spends u before ≡ false

-- frames are asked for before the calls of a picture that begins, after the submission of the one
-- before
abbrev pub asks_before : walk.Call → Meaning → Standing → Bool
asks_before (walk.SubmitPicture number) u before = false
asks_before call u before = begins_at u before

-- the standing after a call that the backend refused, and whether frames were asked for before
abbrev pub LeftAt : walk.Call → (asked : Bool) → Meaning → Standing → Standing → Type 0
LeftAt call asked u before standing =
    IsNumbered call u before
    × (standing ≡ left_at call u before)
    × (asked ≡ asks_before call u before)

-- The unit was taken up to a call that the backend refused.
pub record StopsAt {H : Type 0} (given : Given) (old new : Traces H) (u : Meaning)
    (before standing : Standing) : Type 0 where
  pub asked : Bool
  pub stops : Stops given (questioned_if asked old) new (step_part u before).events
      (λ call. LeftAt call asked u before standing)

-- nothing was done
pub record Stays {H : Type 0} (old new : Traces H) (before standing : Standing) : Type 0 where
  pub traces : new ≡ old
  pub left : standing ≡ before

abbrev pub Takes : {H T : Type 0} → Result T DecodeError → Given → Traces H → Traces H → Meaning
    → Standing → Standing → Type 0
Takes (Ok value) given old new u before standing = Goes given old new u before standing
Takes (Err errors.CheckEvents) given old new u before standing =
    Opens given old new u before standing
Takes (Err errors.Backend) given old new u before standing =
    StopsAt given old new u before standing
Takes (Err errors.NoMemory) given old new u before standing =
    StopsAt given old new u before standing
Takes (Err errors.DpbFull) given old new u before standing =
    (is_full_at u before ≡ true)
    × Fills given old new (step_part u before).events (kept_behind u before) standing
Takes (Err (errors.NotEnoughOutputBuffers frames)) given old new u before standing =
    (frames ≡ 1) × Halts given old new u before standing
Takes (Err errors.PictureNumbersSpent) given old new u before standing =
    Spends given old new u before standing
Takes (Err error) given old new u before standing =
    Refuses error given old new u before standing

-- ---- the parts of a slice

-- the submission was refused: the picture is given up
abbrev pub LeftUnsubmitted : walk.Call → Standing → Standing → Type 0
LeftUnsubmitted (walk.SubmitPicture number) s standing = standing ≡ given_up s
LeftUnsubmitted call s standing = ⊥

-- the picture whose slices came is over
abbrev pub Finishes : {H T : Type 0} → Result T DecodeError → Given → Traces H → Traces H → Standing
    → Standing → Type 0
Finishes (Ok value) given old new s standing =
    (is_full_now s ≡ false) × Completes given old new (finish_current s) standing
Finishes (Err errors.DpbFull) given old new s standing =
    (is_full_now s ≡ true) × Fills given old new (finish_current s).events s standing
Finishes (Err error) given old new s standing =
    StopsBy error given old new (finish_current s).events
    (λ call. LeftUnsubmitted call s standing)

abbrev pub IsNewSequence : walk.Call → Type 0
IsNewSequence (walk.NewSequence info) = Unit {0}
IsNewSequence call = ⊥

-- a format was negotiated, after what waited
abbrev pub Negotiates : {H T : Type 0} → Result T DecodeError → Given → Traces H → Traces H → Format
    → Standing → Standing → Type 0
Negotiates result given old new format s standing =
    Runs result given old new (renegotiates format s)
    (λ call. IsNewSequence call × (standing ≡ drained s)) standing

-- a call of a picture that begins was refused
abbrev pub LeftBegun : walk.Call → Slice → Standing → Standing → Type 0
LeftBegun (walk.SubmitPicture number) slice s standing = ⊥
LeftBegun (walk.NewSequence info) slice s standing =
    (is_accepted slice.format s.store.accepted ≡ false) × (standing ≡ drained s)
LeftBegun call slice s standing =
    (is_accepted slice.format s.store.accepted ≡ true)
    × (s.next.number ≢ 2 ^ 64 - 1)
    × (standing ≡ given_up (begin_slice slice s).next)

-- a picture begins where none is current, after a question for free frames
abbrev pub Begins : {H T : Type 0} → Result T DecodeError → Given → Traces H → Traces H → Slice
    → Standing → Standing → Type 0
Begins (Ok value) given old new slice s standing =
    (is_accepted slice.format s.store.accepted ≡ true)
    × (s.next.number ≢ 2 ^ 64 - 1)
    × (refusal_of_picture (head s.next slice) ≡ None)
    × Completes given (questioned old) new (begin_slice slice s) standing
Begins (Err errors.CheckEvents) given old new slice s standing =
    (is_accepted slice.format s.store.accepted ≡ false)
    × Completes given (questioned old) new (on_store (change_format slice.format) s) standing
Begins (Err (errors.NotEnoughOutputBuffers frames)) given old new slice s standing =
    (frames ≡ 1) × (new ≡ questioned old) × (standing ≡ s)
Begins (Err errors.PictureNumbersSpent) given old new slice s standing =
    (is_accepted slice.format s.store.accepted ≡ true)
    × (s.next.number ≡ 2 ^ 64 - 1)
    × (new ≡ questioned old)
    × (standing ≡ s)
Begins (Err errors.PocOutOfRange) given old new slice s standing =
    (is_accepted slice.format s.store.accepted ≡ true)
    × (s.next.number ≢ 2 ^ 64 - 1)
    × (refusal_of_picture (head s.next slice) ≡ Some PocOutOfRange)
    × (new ≡ questioned old)
    × (standing ≡ s)
Begins (Err error) given old new slice s standing =
    StopsBy error given (questioned old) new (begin_slice slice s).events
    (λ call. LeftBegun call slice s standing)

-- the refused call is one of a picture that has begun
abbrev pub LeftStarted : walk.Call → Type 0
LeftStarted (walk.SubmitPicture number) = ⊥
LeftStarted (walk.NewSequence info) = ⊥
LeftStarted call = Unit {0}

-- a picture of the accepted format begins
abbrev pub Starts : {H T : Type 0} → Result T DecodeError → Given → Traces H → Traces H → Slice
    → Standing → Standing → Type 0
Starts (Ok value) given old new slice s standing =
    (s.next.number ≢ 2 ^ 64 - 1)
    × (refusal_of_picture (head s.next slice) ≡ None)
    × Completes given old new (starts (head s.next slice) slice s) standing
Starts (Err errors.PictureNumbersSpent) given old new slice s standing =
    (s.next.number ≡ 2 ^ 64 - 1) × (new ≡ old) × (standing ≡ s)
Starts (Err errors.PocOutOfRange) given old new slice s standing =
    (s.next.number ≢ 2 ^ 64 - 1)
    × (refusal_of_picture (head s.next slice) ≡ Some PocOutOfRange)
    × (new ≡ old)
    × (standing ≡ s)
Starts (Err error) given old new slice s standing =
    (s.next.number ≢ 2 ^ 64 - 1)
    × StopsBy error given old new (starts (head s.next slice) slice s).events (λ call.
    LeftStarted call × (standing ≡ given_up (starts (head s.next slice) slice s).next))

-- the answer to a format that differs in mid-picture
pub record Changed (error : DecodeError) (refusal : Option Cause) : Type 0 where
  pub accepted : NegotiationInfo
  pub named : NegotiationInfo
  pub refused : refusal ≡ Some (ChangedMidPicture (format_of accepted) (format_of named))
  pub told : error ≡ errors.ChangedMidPicture accepted named

abbrev pub ChecksFormat : {T : Type 0} → Result T DecodeError → Option Cause → Type 0
ChecksFormat (Ok value) refusal = refusal ≡ None
ChecksFormat (Err error) refusal = Changed error refusal

-- a later slice of the current picture
abbrev pub Follows : {H T : Type 0} → Result T DecodeError → Given → Traces H → Traces H → Slice
    → Standing → Standing → Type 0
Follows (Ok value) given old new slice s standing =
    (refusal_of_later s.current slice s.store.accepted ≡ None)
    × Completes given old new (later_slice slice s) standing
Follows (Err errors.Backend) given old new slice s standing =
    Stops given old new (later_slice slice s).events
    (λ call. LeftStarted call × (standing ≡ given_up s))
Follows (Err errors.NoMemory) given old new slice s standing =
    Stops given old new (later_slice slice s).events
    (λ call. LeftStarted call × (standing ≡ given_up s))
Follows (Err error) given old new slice s standing =
    Changed error (refusal_of_later s.current slice s.store.accepted)
    × (new ≡ old)
    × (standing ≡ given_up s)

-- the standing once the picture of a refused slice is given up
abbrev pub given_up_by : {T : Type 0} → Result T DecodeError → Standing → Standing
given_up_by (Ok value) s = s
given_up_by (Err error) s = given_up s

-- a picture is over and the next begins, the header being kept
pub record BeginsBehind {H T : Type 0} (result : Result T DecodeError) (given : Given)
    (old new : Traces H) (slice : Slice) (s standing : Standing) : Type 0 where
  pub mid : Traces H
  pub room : is_full_now s ≡ false
  pub finishes : Does given old mid (finish_current s).events
  pub begins : Begins result given mid new slice (finish_current s).next standing

abbrev pub IsRefused : {T : Type 0} → Result T DecodeError → Type 0
IsRefused (Ok value) = ⊥
IsRefused (Err error) = Unit {0}

abbrev pub Changes : {H T : Type 0} → Result T DecodeError → Given → Traces H → Traces H → Slice
    → Standing → Standing → Type 0
Changes result given old new slice s standing =
    BeginsBehind result given old new slice s standing
    ⊎ (IsRefused result × Finishes result given old new s standing)

-- the picture whose slices came is over, and all that is needed for output is output
abbrev pub Closes : {H T : Type 0} → Result T DecodeError → Given → Traces H → Traces H → Standing
    → Standing → Type 0
Closes (Ok value) given old new s standing =
    (is_full_now s ≡ false) × Completes given old new (closes s) standing
Closes (Err errors.DpbFull) given old new s standing =
    (is_full_now s ≡ true) × Fills given old new (closes s).events s standing
Closes (Err error) given old new s standing =
    StopsBy error given old new (closes s).events (λ call. standing ≡ given_up s)
