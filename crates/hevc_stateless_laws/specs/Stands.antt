-- When a decoder is after some units, and what each unit more brings.
use Rattle.std.specs.Prelude.{◌≡◌, ℕ, is_some, true, false, List, [], ◌∷◌, ◌++◌, map, length}
use Rattle.std.specs.Prelude.{Option, Some, None, Ok, Err}
use Rattle.std.specs.List.{AllByRecursion, flat_map}
use Rattle.hevc_spec.specs.Units.{NalUnit}
use Rattle.hevc_walk.specs.Meanings.{Format, Meaning}
use Rattle.hevc_walk.specs.Pictures.{stream}
use Rattle.hevc_walk.specs.Walk as walk
use Rattle.hevc_walk.specs.Refusals.{Cause, refusal, stop}
use Rattle.hevc_walk.specs.Results.{OutputPicture, verdict, calls, outputs, calls_of_unit}
use Rattle.hevc_walk.specs.Results.{outputs_of_unit}
use Rattle.hevc_walk_units.specs.Units.{Standing, is_full_at}
use Rattle.hevc_walk_agree.specs.Standings as joined
use Rattle.hevc_stream.specs.Options.{Options}
use Rattle.hevc_stream.specs.Kept.{Kept, none_kept}
use Rattle.hevc_stream.specs.Contents.{content}
use Rattle.hevc_stream.specs.Stream.{meaning, meanings_behind, kept_behind_all}
use Rattle.hevc_bumping.specs.declared.frame.Frame.{Frame}
use Rattle.hevc_backend.specs.declared.call.Call.{Call}
use Rattle.hevc_backend.specs.Trait.{logged}
use Rattle.hevc_driver.specs.declared.decode_error.DecodeError.{DecodeError}
use Rattle.hevc_driver.specs.declared.decode_error.DecodeError.TheVariants as errors
use Rattle.hevc_driver.specs.Errors.{error_of}
use Rattle.hevc_driver.specs.Calls.{call_of, IsTimed}
use Rattle.hevc_driver.specs.Given.{Given, handed_by}
use Rattle.hevc_driver.specs.Does.{call_in}
use Rattle.hevc_driver.specs.Moments.{negotiates, opening}
use Rattle.hevc_stateless.specs.declared.state.State.{State}
use Rattle.hevc_stateless.specs.declared.state.State.TheVariants.{AwaitingStreamInfo}
use Rattle.hevc_stateless.specs.declared.state.State.TheVariants.{AwaitingFormat, Decoding}
use Rattle.hevc_stateless.specs.States.{later_meaning}
use Rattle.hevc_stateless.specs.Segments.{read_at, given_with}
use Rattle.hevc_stateless.specs.Steps.{Seen, with_read_set}
use Rattle.hevc_stateless_laws.specs.Segments.{latest_after}

-- before the first sequence set nothing is decoded
abbrev pub state_by : Option Format → State
state_by None = AwaitingStreamInfo
state_by (Some format) = Decoding

-- what units mean from the beginning of a stream on
abbrev pub meant : Options → List NalUnit → List Meaning
meant options us = meanings_behind options none_kept us

-- what is kept after some units
abbrev pub kept_after : Options → List NalUnit → Kept
kept_after options us = kept_behind_all options none_kept us

-- the standing after some units
abbrev pub standing_after : List Meaning → Standing
standing_after ms = joined.standing (stream ms)

-- A decoder is after these units of its stream; none of them was refused.
pub record StandsAfter {B H : Type 0} (options : Options) (us : List NalUnit) (seen : Seen B H)
    : Type 0 where
  pub goes_on : stop (meant options us) ≡ None
  pub stands : seen.view.standing ≡ standing_after (meant options us)
  pub state_is : seen.view.state ≡ state_by (standing_after (meant options us)).store.accepted
  pub kept : seen.kept ≡ kept_behind_all options none_kept us
  pub latest : seen.view.latest ≡ latest_after options us
  -- no picture was to be stored into a full buffer
  pub room : joined.full_by (stream (meant options us)) ≡ None
  -- a format was negotiated exactly where a sequence set is kept
  pub started :
      is_some (standing_after (meant options us)).store.accepted ≡ seen.kept.has_sequence_set

abbrev pub frame_at : {H : Type 0} → ℕ → Frame H → OutputPicture
frame_at k f = record { number = f.number; order_count = f.order_count; unit = k }

abbrev pub asked : ℕ × walk.Call → walk.Call
asked c = c.1

-- the log grew by these calls, with what comes with a unit
pub record Logged {B H : Type 0} (given : Given) (old new : Seen B H) (calls : List walk.Call)
    : Type 0 where
  pub made : List (Call H)
  pub log : new.log ≡ logged old.log made
  pub calls_are : map call_of made ≡ calls
  pub timed : AllByRecursion (IsTimed given.timestamp) made
  pub handed : new.handed ≡ logged old.handed (flat_map (handed_by given) calls)

-- what comes with a unit after some units
abbrev pub given_next : (timestamp : ℕ) → Options → List NalUnit → NalUnit → Given
given_next timestamp options us u =
    given_with timestamp (meaning options (kept_after options us) u.bytes)
    (read_at options (kept_after options us) (latest_after options us) u.bytes)
    (standing_after (meant options us))

-- the queue grew by these outputs, of the k-th unit
pub record Queued {B H : Type 0} (k : ℕ) (old new : Seen B H) (outputs : List OutputPicture)
    : Type 0 where
  pub out : List (Frame H)
  pub queue : new.view.queue ≡ old.view.queue ++ out
  pub outputs_are : map (frame_at k) out ≡ outputs

-- A unit was taken after some units: the decoder is after it too,
-- and it made its calls and gave its outputs.
pub record Took {B H : Type 0} (timestamp : ℕ) (options : Options) (us : List NalUnit) (u : NalUnit)
    (old new : Seen B H) : Type 0 where
  pub stands : StandsAfter options (us ++ u ∷ []) new
  pub calls : Logged (given_next timestamp options us u) old new
      (map asked (calls_of_unit (length us) (calls (meant options (us ++ u ∷ [])))))
  pub outputs : Queued (length us) old new
      (outputs_of_unit (length us) (outputs (meant options (us ++ u ∷ []))))

-- ---- a unit that opens a negotiation

-- the first sequence set is negotiated, and a later one isn't
abbrev pub first_meaning : Option Format → Meaning → Meaning
first_meaning None m = m
first_meaning (Some format) m = later_meaning m

-- what a unit means to a decoder that is after some units
abbrev pub meant_next : Options → List NalUnit → NalUnit → Meaning
meant_next options us u =
    first_meaning (standing_after (meant options us)).store.accepted
    (meaning options (kept_after options us) u.bytes)

-- the calls up to the negotiation that a unit opens
abbrev pub first_calls : Options → List NalUnit → NalUnit → List walk.Call
first_calls options us u =
    flat_map call_in (opening (meant_next options us u) (standing_after (meant options us))).events

-- A decoder is after these units and the negotiation that the next one opened.
pub record StandsBetween {B H : Type 0} (options : Options) (us : List NalUnit) (u : NalUnit)
    (seen : Seen B H) : Type 0 where
  pub goes_on : stop (meant options us) ≡ None
  pub negotiates : negotiates (meant_next options us u) (standing_after (meant options us)) ≡ true
  pub room : joined.full_by (stream (meant options us)) ≡ None
  pub space : is_full_at (meant_next options us u) (standing_after (meant options us)) ≡ false
  pub stands : seen.view.standing
      ≡ (opening (meant_next options us u) (standing_after (meant options us))).next
  pub kept : seen.kept
      ≡ with_read_set (content options (kept_after options us) u.bytes) (kept_after options us)
  pub latest : seen.view.latest ≡ latest_after options (us ++ u ∷ [])
  -- a format was negotiated before exactly where a sequence set was kept
  pub started : is_some (standing_after (meant options us)).store.accepted
      ≡ (kept_after options us).has_sequence_set

-- A unit opened a negotiation: the calls up to there were made,
-- and all its outputs are in the queue.
pub record Opened {B H : Type 0} (timestamp : ℕ) (options : Options) (us : List NalUnit)
    (u : NalUnit) (old new : Seen B H) : Type 0 where
  pub between : StandsBetween options us u new
  pub state_is : new.view.state ≡ AwaitingFormat
  pub calls : Logged (given_next timestamp options us u) old new (first_calls options us u)
  pub outputs : Queued (length us) old new
      (outputs_of_unit (length us) (outputs (meant options (us ++ u ∷ []))))

-- It was given again and taken: it outputs nothing, and both calls together made its calls.
pub record TookAgain {B H : Type 0} (timestamp : ℕ) (options : Options) (us : List NalUnit)
    (u : NalUnit) (old new : Seen B H) : Type 0 where
  pub stands : StandsAfter options (us ++ u ∷ []) new
  pub later : List walk.Call
  pub logs : Logged (given_next timestamp options us u) old new later
  pub both : map asked (calls_of_unit (length us) (calls (meant options (us ++ u ∷ []))))
      ≡ first_calls options us u ++ later
  pub queue : new.view.queue ≡ old.view.queue

-- ---- a unit that is refused

-- the errors of units, but for a full store
abbrev pub IsRefusal : DecodeError → Type 0
IsRefusal errors.TruncatedNalu = Unit {0}
IsRefusal (errors.InvalidNaluType nal_unit_type) = Unit {0}
IsRefusal errors.OutOfBits = Unit {0}
IsRefusal (errors.OutOfRange table row) = Unit {0}
IsRefusal (errors.MissingPps id) = Unit {0}
IsRefusal errors.NoIndependentSlice = Unit {0}
IsRefusal (errors.ChangedMidPicture accepted named) = Unit {0}
IsRefusal errors.PocOutOfRange = Unit {0}
IsRefusal error = ⊥

-- A unit is refused as the stream's definitions refuse it,
-- and what comes before its refusal was done.
pub record RefusedUnit {B H : Type 0} (error : DecodeError) (timestamp : ℕ) (options : Options)
    (us : List NalUnit) (u : NalUnit) (old new : Seen B H) : Type 0 where
  pub cause : Cause
  pub refused :
      refusal (stream (meant options us)) (meaning options (kept_after options us) u.bytes)
      ≡ Some cause
  pub named : error_of cause ≡ error
  -- whatever comes after it, that is the answer to the stream
  pub verdict : (back : List NalUnit)
      → verdict (meant options (us ++ u ∷ back)) ≡ Err (record { unit = length us; cause = cause })
  pub calls : Logged (given_next timestamp options us u) old new
      (map asked (calls_of_unit (length us) (calls (meant options (us ++ u ∷ [])))))
  pub outputs : Queued (length us) old new
      (outputs_of_unit (length us) (outputs (meant options (us ++ u ∷ []))))

-- ---- the end

-- The stream ended after these units: the calls and outputs at its end were made, and the answer
-- is the number of its pictures.
pub record Ended {B H : Type 0} (given : Given) (options : Options) (us : List NalUnit)
    (old new : Seen B H) : Type 0 where
  pub verdict : verdict (meant options us) ≡ Ok old.view.standing.next.number
  pub calls :
      Logged given old new (map asked (calls_of_unit (length us) (calls (meant options us))))
  pub outputs :
      Queued (length us) old new (outputs_of_unit (length us) (outputs (meant options us)))
