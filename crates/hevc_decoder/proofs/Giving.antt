-- A unit that is given once.
use Rattle.std.proofs.Common.{◌≡◌, ◌⊎◌, ⊎_elim, inl, inr, ℕ, ◌+◌, ◌-◌, ◌<◌, ◌^◌, List, [], ◌∷◌}
use Rattle.std.proofs.Common.{◌++◌, map, refl, sym, ◌∙◌, ap, subst, arith, Option, Some, None}
use Rattle.std.proofs.Common.{Result, Ok, Err, Bool, true, false, not, ◌&&◌, ◌==◌, if◌then◌else◌}
use Rattle.std.proofs.lemmas.Bool.Decides.{nat_tests}
use Rattle.hevc_walk.specs.Meanings.{Slice, Meaning, SequenceSet, CodedSlice, EndOfSequence}
use Rattle.hevc_walk.specs.Meanings.{EndOfBitstream, Other, Refused}
use Rattle.hevc_walk.specs.DependentSlices.{whole_slice}
use Rattle.hevc_walk.specs.Walk as walk
use Rattle.hevc_walk.specs.Walk.{Event, Called, Part}
use Rattle.hevc_walk.specs.Meanings as causes
use Rattle.hevc_walk.specs.Refusals.{Cause, UnitRefused, NoIndependentSlice, ChangedMidPicture, PocOutOfRange, DpbFull}
use Rattle.hevc_driver.specs.Errors.{error_of}
use Rattle.hevc_walk_units.specs.Units.{Standing, finish_current, begin_slice, first_slice}
use Rattle.hevc_walk_units.specs.Units.{later_slice, whole_part, unit_part, is_full_at}
use Rattle.hevc_bumping.specs.declared.frame.Frame.{Frame}
use Rattle.hevc_driver.specs.declared.decode_error.DecodeError.{DecodeError}
use Rattle.hevc_driver.specs.declared.decode_error.DecodeError.TheVariants as errors
use Rattle.hevc_driver.specs.Given.{Given}
use Rattle.hevc_driver.specs.Does.{Traces, questioned_if, Does, Stops}
use Rattle.hevc_driver.specs.Moments.{with_kept, begins_at, begins_by, negotiates, step_part, kept_behind}
use Rattle.hevc_driver.specs.Takes.{asking, Goes, Fills, Halts, Refuses, Stays, LeftAt, Takes}
use Rattle.hevc_driver.proofs.Doing.{does_nothing, keeps_all}
use Rattle.hevc_spec.specs.UnitHeader.{UnitHeader}
use Rattle.hevc_stream.specs.Options.{Options}
use Rattle.hevc_stateless.specs.States.{meaning_in, unit_at}
use Rattle.hevc_stateless.specs.Steps.{Seen, Step}
use Rattle.hevc_stateless.specs.Views.{Moment, traces_of}
use Rattle.hevc_stateless_laws.proofs.Means.{Means}
use Rattle.hevc_decoder.specs.Names.{shown_at}
use Rattle.hevc_decoder.specs.Scenes.{Scene, trail_of, with_queue}
use Rattle.hevc_decoder.specs.Takes.{StopsPlan, TakesWhole, RefusesUnit, FillsUnit, HaltsUnit, TakesUnit}
use Rattle.hevc_decoder.proofs.Doing.{lifts}

-- what a call does, but for the state
abbrev pub TakesOrStays : {H T : Type 0} → Given → Result T DecodeError → Traces H → Traces H → Meaning
    → Standing → Standing → Type 0
TakesOrStays {H} {T} g (Err errors.NoMemory) a b x s st =
    Stays a b s st ⊎ Takes {T = T} (Err errors.NoMemory) g a b x s st
TakesOrStays g r a b x s st = Takes r g a b x s st

pub part_of : {B H T : Type 0} (g : Given) (r : Result T DecodeError) (o : Options) (h : UnitHeader)
    (bytes : List ℕ) (old new : Seen B H) → Step r g o h bytes old new
    → TakesOrStays g r (traces_of old.log old.handed old.asked old.view)
    (traces_of new.log new.handed new.asked new.view)
    (meaning_in old.view.state (unit_at o old.kept h bytes)) old.view.standing new.view.standing
part_of g (Ok v) o h bytes old new step = step.takes.part
part_of {H = H} g (Err errors.NoMemory) o h bytes old new step =
    ⊎_elim (λ same. inl (record {
      traces = ap (λ (m : Moment H). m.traces) same;
      left = ap (λ (m : Moment H). m.standing) same;
    })) (λ acts. inr acts.part) step.takes
part_of g (Err e) o h bytes old new step = step.takes.part

-- no cause is told as the end of the stream
pub no_nal : (c : Cause) → error_of c ≡ errors.NoNal → ⊥
no_nal (UnitRefused causes.TruncatedNalu) is = cc is
no_nal (UnitRefused (causes.InvalidNaluType n)) is = cc is
no_nal (UnitRefused causes.OutOfBits) is = cc is
no_nal (UnitRefused (causes.OutOfRange t r)) is = cc is
no_nal (UnitRefused (causes.MissingPps n)) is = cc is
no_nal NoIndependentSlice is = cc is
no_nal (ChangedMidPicture accepted named) is = cc is
no_nal PocOutOfRange is = cc is
no_nal DpbFull is = cc is

-- a picture begins after the end of the one before
whole_begins : (x : Slice) (s : Standing) (o : Option Slice) → whole_slice s.kept x ≡ o
    → begins_by o s ≡ true
    → (later : List Event) × ((unit_part (CodedSlice x) s).events ≡ (finish_current (with_kept x s)).events ++ later)
whole_begins x s None whole e = absurd (cc e)
whole_begins x s (Some w) whole e = (
  (begin_slice w (finish_current (with_kept x s)).next).events,
  ap (λ (o : Option Slice). (whole_part o (with_kept x s)).events) whole
      ∙ ap (λ (b : Bool). (if b then first_slice w (with_kept x s) else later_slice w (with_kept x s)).events) e,
)

pub part_begins : (y : Meaning) (s : Standing) → begins_at y s ≡ true
    → (later : List Event) × ((unit_part y s).events ≡ (finish_current (kept_behind y s)).events ++ later)
part_begins (SequenceSet f) s e = absurd (cc e)
part_begins (CodedSlice x) s e = whole_begins x s (whole_slice s.kept x) refl e
part_begins EndOfSequence s e = absurd (cc e)
part_begins EndOfBitstream s e = absurd (cc e)
part_begins Other s e = absurd (cc e)
part_begins (Refused c) s e = absurd (cc e)

-- a meaning that begins a picture is a slice's
kept_same : (x y : Meaning) (s : Standing) → begins_at x s ≡ true → step_part x s ≡ unit_part x s
kept_same (SequenceSet f) y s e = absurd (cc e)
kept_same (CodedSlice w) y s e = refl
kept_same EndOfSequence y s e = refl
kept_same EndOfBitstream y s e = refl
kept_same Other y s e = refl
kept_same (Refused c) y s e = refl

last_true : (p q n : Bool) → p && q && n ≡ true → n ≡ true
last_true true true n h = h
last_true true false n h = absurd (cc h)
last_true false q n h = absurd (cc h)

module _ {B H : Type 0} (at : ℕ → Given) (k : ℕ) (untimed : (at k).timestamp ≡ 0) (old new : Scene B H)
    (out : List (Frame H)) (x y : Meaning) (s st : Standing) (m : Means x y s)
    (empty : old.seen.view.queue ≡ []) (shown : new.shown ≡ old.shown ++ map (shown_at k) out) where
  abbrev a : Traces H
  a = traces_of old.seen.log old.seen.handed old.seen.asked old.seen.view

  abbrev b : Traces H
  b = traces_of new.seen.log new.seen.handed new.seen.asked (with_queue out new.seen).view

  whole_events : (step_part x s).events ≡ (unit_part y s).events
  whole_events = ap (λ (q : Part Standing). q.events) m.part

  once_ok : Goes (at k) a b x s st → TakesWhole at k (trail_of old) (trail_of new) y s
  once_ok g = record {
    goes_on = sym m.refusal ∙ g.goes_on;
    room = sym m.full ∙ g.room;
    does = lifts at k untimed old new out (unit_part y s).events empty shown
        (subst (Does (at k) (asking x s a) b) whole_events g.completes.does);
  }

  once_stops : (F : Type 0) (asked : Bool) (Left : walk.Call → Type 0)
      → Stops (at k) (questioned_if asked a) b (step_part x s).events Left
      → StopsPlan at F k (trail_of old) (trail_of new) (unit_part y s).events
  once_stops F asked Left z = record {
    done = z.done;
    rest = Called z.call ∷ z.rest;
    whole = sym whole_events ∙ z.whole;
    does = lifts at k untimed old new out z.done empty shown z.does;
    next = λ f. record { call = z.call; later = z.rest; rest_is = refl };
  }

  once_fills : (before : Standing)
      → (is_full_at x s ≡ true) × Fills (at k) a b (step_part x s).events before st
      → FillsUnit at k (trail_of old) (trail_of new) y s
  once_fills before z = record {
    full = sym m.full ∙ z.0;
    fills = record {
      number = z.1.number;
      rest = z.1.rest;
      whole = sym whole_events ∙ z.1.whole;
      does = lifts at k untimed old new out (Called (walk.SubmitPicture z.1.number) ∷ []) empty shown z.1.does;
    };
  }

  once_halts : (frames : ℕ) → (frames ≡ 1) × Halts (at k) a b x s st
      → HaltsUnit at frames k (trail_of old) (trail_of new) y s
  once_halts frames (one, z) =
      let later = part_begins x s z.begins in
      record {
        told = one;
        begins = sym m.begins ∙ z.begins;
        stops = record {
          done = (finish_current (kept_behind x s)).events;
          rest = later.0;
          whole = sym whole_events ∙ ap (λ (q : Part Standing). q.events) (kept_same x y s z.begins) ∙ later.1;
          does = lifts at k untimed old new out (finish_current (kept_behind x s)).events empty shown z.does;
          next = λ f. absurd f;
        };
      }

  once_refuses : (e : DecodeError) → Refuses e (at k) a b x s st → RefusesUnit at e k (trail_of old) (trail_of new) y s
  once_refuses e z = record {
    room = sym m.full ∙ z.room;
    cause = z.cause;
    refused = sym m.refusal ∙ z.refused;
    named = z.named;
    does = lifts at k untimed old new out (unit_part y s).events empty shown
        (subst (Does (at k) (asking x s a) b) whole_events z.does);
  }

  once_stays : Stays a b s st → StopsPlan at ⊥ k (trail_of old) (trail_of new) (unit_part y s).events
  once_stays z = record {
    done = [];
    rest = (unit_part y s).events;
    whole = refl;
    does = lifts at k untimed old new out [] empty shown
        (does_nothing (at k) a b (ap (λ (v : Traces H). v.log) z.traces)
        (ap (λ (v : Traces H). v.handed) z.traces) (ap (λ (v : Traces H). v.asked) z.traces)
        (ap (λ (v : Traces H). v.queue) z.traces)
        (keeps_all a.tickets b.tickets (ap (λ (v : Traces H). v.tickets) z.traces)));
    next = λ f. absurd f;
  }

  pub take_once : {T : Type 0} (r : Result T DecodeError) → (r ≡ Err errors.CheckEvents → ⊥)
      → s.next.number + 1 < 2 ^ 64 → TakesOrStays (at k) r a b x s st
      → TakesUnit at r k (trail_of old) (trail_of new) y s
  take_once (Ok v) isnt few z = once_ok z
  take_once (Err errors.Backend) isnt few z = once_stops (Unit {0}) z.asked (λ c. LeftAt c z.asked x s st) z.stops
  take_once (Err errors.NoMemory) isnt few (inl z) = once_stays z
  take_once (Err errors.NoMemory) isnt few (inr z) = once_stops ⊥ z.asked (λ c. LeftAt c z.asked x s st) z.stops
  take_once (Err errors.DpbFull) isnt few z = once_fills (kept_behind x s) z
  take_once (Err (errors.NotEnoughOutputBuffers frames)) isnt few z = once_halts frames z
  take_once (Err errors.NoNal) isnt few z = absurd (no_nal z.cause z.named)
  take_once (Err errors.CheckEvents) isnt few z = absurd (isnt refl)
  take_once (Err errors.PictureNumbersSpent) isnt few z = let spent : s.next.number ≡ 2 ^ 64 - 1 =
      grind (
        arith,
        nat_tests,
        last_true (begins_at x s) (not (negotiates x s)) (s.next.number == 2 ^ 64 - 1) z.spent,
      ) in absurd (omega (arith, spent, few))
  take_once (Err e) isnt few z = once_refuses e z
