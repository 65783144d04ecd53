-- Units that are passed over or refused, and the states.
use Rattle.std.proofs.Common.{◌≡◌, inr, ◌&&◌, ◌||◌, refl, ◌∙◌, ap, Result, Ok, Err, Bool, true, false, if◌then◌else◌}
use Rattle.hevc_spec.specs.UnitTypes.{is_idr}
use Rattle.hevc_walk.specs.Meanings as meaning
use Rattle.hevc_walk.specs.Meanings.{UnitCause, Meaning, Other, Refused}
use Rattle.hevc_walk.specs.Refusals.{UnitRefused}
use Rattle.hevc_walk_units.specs.Units.{Standing}
use Rattle.hevc_driver.specs.declared.decode_error.DecodeError.{DecodeError}
use Rattle.hevc_driver.specs.declared.decode_error.DecodeError.TheVariants as errors
use Rattle.hevc_driver.specs.Errors.{cause_error}
use Rattle.hevc_driver.specs.Given.{Given}
use Rattle.hevc_driver.specs.Does.{Traces}
use Rattle.hevc_driver.specs.Takes.{Goes, Refuses, Takes}
use Rattle.hevc_driver.proofs.Doing.{does_nothing, keeps_all}
use Rattle.std.specs.Prelude.{Option, None}
use Rattle.hevc_records.specs.SliceHeader.{PlainSliceSegmentHeader}
use Rattle.hevc_stateless.specs.Segments.{latest_at}
use Rattle.hevc_stateless.specs.Steps.{Acts, TakesIn}
use Rattle.hevc_stateless.specs.Views.{Moment}
use Rattle.hevc_stateless.specs.declared.state.State.{State}
use Rattle.hevc_stateless.specs.declared.state.State.TheVariants.{AwaitingStreamInfo, AwaitingFormat, Decoding, Reset}
use Rattle.hevc_stateless.specs.States.{Unit, is_sequence_set, is_parameter_set, later_meaning}
use Rattle.hevc_stateless.specs.States.{state_behind, meaning_when, meaning_in, MovesBy, is_awaited}
use Rattle.hevc_stateless.specs.States.{awaits_stream_info, resumes}

-- ---- what a unit asks

refuses : {H : Type 0} (c : UnitCause) (t : Given) (a : Traces H) (s : Standing)
    → Refuses (cause_error c) t a a (Refused c) s s
refuses {H} c t a s = record {
  accepted = refl;
  room = refl;
  numbered = refl;
  cause = UnitRefused c;
  refused = refl;
  named = refl;
  does = does_nothing t a a refl refl refl refl (keeps_all a.tickets a.tickets refl);
  left = refl;
}

-- a unit that is refused by itself
pub refused_unit : {H : Type 0} (T : Type 0) (c : UnitCause) (t : Given) (a : Traces H) (s : Standing)
    → Takes {T = T} (Err (cause_error c)) t a a (Refused c) s s
refused_unit T meaning.TruncatedNalu t a s = refuses meaning.TruncatedNalu t a s
refused_unit T (meaning.InvalidNaluType n) t a s = refuses (meaning.InvalidNaluType n) t a s
refused_unit T meaning.OutOfBits t a s = refuses meaning.OutOfBits t a s
refused_unit T (meaning.OutOfRange x y) t a s = refuses (meaning.OutOfRange x y) t a s
refused_unit T (meaning.MissingPps n) t a s = refuses (meaning.MissingPps n) t a s

-- such a unit opens no negotiation
pub refused_moves : (T : Type 0) (c : UnitCause) (behind now : State) → now ≡ behind
    → MovesBy {T = T} (Err (cause_error c)) behind now
refused_moves T meaning.TruncatedNalu behind now is = is
refused_moves T (meaning.InvalidNaluType n) behind now is = is
refused_moves T meaning.OutOfBits behind now is = is
refused_moves T (meaning.OutOfRange x y) behind now is = is
refused_moves T (meaning.MissingPps n) behind now is = is

-- a unit that was taken
pub acts_in : {H T : Type 0} (r : Result T DecodeError) (t : Given) (u : Meaning)
    (own : Option PlainSliceSegmentHeader) (behind : State) (old new : Moment H)
    → Acts r t u own behind old new → TakesIn r t u own behind old new
acts_in (Ok v) t u own behind old new a = a
acts_in (Err errors.NoMemory) t u own behind old new a = inr a
acts_in (Err e) t u own behind old new a = a

-- a unit that means nothing
pub idle_unit : {H : Type 0} (t : Given) (a : Traces H) (s : Standing) → Goes t a a Other s s
idle_unit {H} t a s = record {
  accepted = refl;
  room = refl;
  numbered = refl;
  goes_on = refl;
  completes = record {
    does = does_nothing t a a refl refl refl refl (keeps_all a.tickets a.tickets refl);
    next = refl;
  };
}

-- ---- the latest independent header

-- no header of its own was read
pub latest_without : (m : Meaning) (latest : Option PlainSliceSegmentHeader) → latest_at m None latest ≡ latest
latest_without (meaning.SequenceSet f) latest = refl
latest_without (meaning.CodedSlice s) latest = refl
latest_without meaning.EndOfSequence latest = refl
latest_without meaning.EndOfBitstream latest = refl
latest_without meaning.Other latest = refl
latest_without (meaning.Refused c) latest = refl

-- ---- the states

and_false : (b : Bool) → (b && false) ≡ false
and_false true = refl
and_false false = refl

-- a unit that is neither an IDR picture's slice nor a sequence set
pub stays_behind : (st : State) (u : Unit) → is_idr u.nal_unit_type ≡ false
    → is_sequence_set u.meaning ≡ false → state_behind st u ≡ st
stays_behind AwaitingStreamInfo u i s = refl
stays_behind AwaitingFormat u i s = refl
stays_behind Decoding u i s = refl
stays_behind Reset u i s =
    ap (λ (b : Bool). if u.is_wanted && (b || is_sequence_set u.meaning) then Decoding else Reset) i
    ∙ ap (λ (b : Bool). if u.is_wanted && b then Decoding else Reset) s
    ∙ ap (λ (b : Bool). if b then Decoding else Reset) (and_false u.is_wanted)

set_means : (st : State) (u : Unit) (m : Meaning) → is_parameter_set u.nal_unit_type ≡ true → u.meaning ≡ m
    → later_meaning m ≡ m → meaning_when st u ≡ m
set_means AwaitingStreamInfo u m p is l = ap (λ (b : Bool). if b then u.meaning else Other) p ∙ is
set_means AwaitingFormat u m p is l = ap (λ (b : Bool). if b then later_meaning u.meaning else Other) p
    ∙ ap later_meaning is ∙ l
set_means Decoding u m p is l = ap later_meaning is ∙ l
set_means Reset u m p is l = ap (λ (b : Bool). if b then later_meaning u.meaning else Other) p ∙ ap later_meaning is ∙ l

-- the unit of a parameter set that isn't a sequence set means the same in each state
pub set_means_in : (st : State) (u : Unit) (m : Meaning) → is_parameter_set u.nal_unit_type ≡ true
    → is_idr u.nal_unit_type ≡ false → u.meaning ≡ m → later_meaning m ≡ m → is_sequence_set m ≡ false
    → meaning_in st u ≡ m
set_means_in st u m p i is l s =
    ap (λ (x : State). meaning_when x u) (stays_behind st u i (ap is_sequence_set is ∙ s)) ∙ set_means st u m p is l

-- the first sequence set
pub first_behind : (st : State) (u : Unit) → awaits_stream_info st ≡ true → state_behind st u ≡ st
first_behind AwaitingStreamInfo u is = refl
first_behind AwaitingFormat u is = absurd (cc is)
first_behind Decoding u is = absurd (cc is)
first_behind Reset u is = absurd (cc is)

pub first_means : (st : State) (u : Unit) (m : Meaning) → awaits_stream_info st ≡ true
    → is_parameter_set u.nal_unit_type ≡ true → u.meaning ≡ m → meaning_in st u ≡ m
first_means AwaitingStreamInfo u m is p means = ap (λ (b : Bool). if b then u.meaning else Other) p ∙ means
first_means AwaitingFormat u m is p means = absurd (cc is)
first_means Decoding u m is p means = absurd (cc is)
first_means Reset u m is p means = absurd (cc is)

-- a later one ends the wait after a flush
pub later_behind : (st : State) (u : Unit) → awaits_stream_info st ≡ false → is_awaited st ≡ false
    → resumes u ≡ true → state_behind st u ≡ Decoding
later_behind AwaitingStreamInfo u first awaited r = absurd (cc first)
later_behind AwaitingFormat u first awaited r = absurd (cc awaited)
later_behind Decoding u first awaited r = refl
later_behind Reset u first awaited r = ap (λ (b : Bool). if b then Decoding else Reset) r
