-- After the last unit.
use Rattle.std.proofs.Common.{◌≡◌, inl, inr, ℕ, List, [], ◌∷◌, ◌++◌, map, refl, sym, ◌∙◌, ap, subst}
use Rattle.std.proofs.Common.{append-nil, None, Result, Ok, Err}
use Rattle.hevc_spec.specs.Units.{NalUnit}
use Rattle.hevc_walk.specs.Pictures.{stream}
use Rattle.hevc_walk.specs.Walk as walk
use Rattle.hevc_walk.specs.Walk.{Called, at_unit}
use Rattle.hevc_walk.specs.Results.{walk_events}
use Rattle.hevc_walk_units.specs.Units.{Standing, closing_part, refused_at, full_or_cause}
use Rattle.hevc_stream.specs.Options.{Options}
use Rattle.hevc_bumping.specs.declared.frame.Frame.{Frame}
use Rattle.hevc_driver.specs.declared.decode_error.DecodeError.{DecodeError}
use Rattle.hevc_driver.specs.declared.decode_error.DecodeError.TheVariants as errors
use Rattle.hevc_driver.specs.Given.{Given}
use Rattle.hevc_stateless.specs.Flushes.{Flushes}
use Rattle.hevc_stateless_laws.specs.Segments.{given_of, read_units_of}
use Rattle.hevc_driver.specs.Does.{Traces, Stops}
use Rattle.hevc_driver.specs.Moments.{closes, given_up}
use Rattle.hevc_driver.specs.Takes.{Stays}
use Rattle.hevc_driver.proofs.Doing.{does_nothing, keeps_all}
use Rattle.hevc_stateless.specs.Views.{traces_of}
use Rattle.hevc_stateless_laws.specs.Stands.{meant, standing_after}
use Rattle.hevc_decoder.specs.Names.{shown_at, answer_of}
use Rattle.hevc_decoder.specs.Scenes.{Scene, Trail, trail_of, with_queue}
use Rattle.hevc_decoder.specs.Gives.{Closes}
use Rattle.hevc_decoder.specs.Takes.{StopsPlan, ClosesWhole, EndsStream}
use Rattle.hevc_decoder.specs.Runs.{Reached, Ended}
use Rattle.hevc_decoder.proofs.Doing.{lifts, does_all_nothing, does_all_then}
use Rattle.hevc_decoder.proofs.Running.{Cut, events_are, verdict_is, cut_at, filled, failed, wanted}

module _ {B H : Type 0} (at : ℕ → Given) (k : ℕ) (untimed : (at k).timestamp ≡ 0) (old new : Scene B H)
    (empty : old.seen.view.queue ≡ []) where
  abbrev before : Standing
  before = old.seen.view.standing

  module _ (out : List (Frame H)) (shown : new.shown ≡ old.shown ++ map (shown_at k) out) where
    abbrev a : Traces H
    a = traces_of old.seen.log old.seen.handed old.seen.asked old.seen.view

    abbrev b : Traces H
    b = traces_of new.seen.log new.seen.handed new.seen.asked (with_queue out new.seen).view

    plan_stops : (F : Type 0) (Left : walk.Call → Type 0) → Stops (at k) a b (closes before).events Left
        → StopsPlan at F k (trail_of old) (trail_of new) (closing_part before).events
    plan_stops F Left z = record {
      done = z.done;
      rest = Called z.call ∷ z.rest;
      whole = z.whole;
      does = lifts at k untimed old new out z.done empty shown z.does;
      next = λ f. record { call = z.call; later = z.rest; rest_is = refl };
    }

    plan_stays : Stays a b before new.seen.view.standing
        → StopsPlan at ⊥ k (trail_of old) (trail_of new) (closing_part before).events
    plan_stays z = record {
      done = [];
      rest = (closing_part before).events;
      whole = refl;
      does = lifts at k untimed old new out [] empty shown
          (does_nothing (at k) a b (ap (λ (v : Traces H). v.log) z.traces)
          (ap (λ (v : Traces H). v.handed) z.traces) (ap (λ (v : Traces H). v.asked) z.traces)
          (ap (λ (v : Traces H). v.queue) z.traces)
          (keeps_all a.tickets b.tickets (ap (λ (v : Traces H). v.tickets) z.traces)));
      next = λ f. absurd f;
    }

    flushed : {T : Type 0} (r : Result T DecodeError)
        → Flushes r (at k) a b old.seen.view.state before new.seen.view.standing
        → EndsStream at r k (trail_of old) (trail_of new) before
    flushed (Ok v) z = record {
      room = z.room;
      does = lifts at k untimed old new out (closing_part before).events empty shown z.does;
    }
    flushed (Err errors.Backend) z = plan_stops (Unit {0}) (λ c. new.seen.view.standing ≡ given_up before) z
    flushed (Err errors.NoMemory) (inl z) = plan_stays z
    flushed (Err errors.NoMemory) (inr z) = plan_stops ⊥ (λ c. new.seen.view.standing ≡ given_up before) z
    flushed (Err errors.DpbFull) z = record {
      full = z.0;
      fills = record {
        number = z.1.number;
        rest = z.1.rest;
        whole = z.1.whole;
        does = lifts at k untimed old new out (Called (walk.SubmitPicture z.1.number) ∷ []) empty shown z.1.does;
      };
    }
    flushed (Err e) z = absurd z

  pub ends_stream : {T : Type 0} (r : Result T DecodeError) → Closes r k old new
      → EndsStream at r k (trail_of old) (trail_of new) before
  ends_stream {T} r (inl d) = flushed d.out d.shown r (d.calls (at k))
  ends_stream {T} r (inr u) =
      subst (λ (q : Result T DecodeError). EndsStream at q k (trail_of old) (trail_of new) before) (sym u.told)
      (record {
        done = [];
        rest = (closing_part before).events;
        whole = refl;
        does = does_all_nothing at (trail_of old) (trail_of new) (ap trail_of u.same);
        next = λ f. absurd f;
      })

module _ {B H : Type 0} (o : Options) (all : List NalUnit) (k : ℕ) (old mid : Scene B H) (new : Trail H)
    (x : Reached o all k old mid []) where
  abbrev at_all : ℕ → Given
  at_all = given_of (meant o all) (read_units_of o all)

  abbrev s : Standing
  s = standing_after (meant o x.front)

  plan_is : at_unit k (closing_part s).events ≡ at_unit k (closing_part s).events ++ []
  plan_is = sym (append-nil (at_unit k (closing_part s).events))

  pub ended_whole : ClosesWhole at_all k (trail_of mid) new s
      → Ended (Ok mid.seen.view.standing.next.number) (meant o all) (read_units_of o all) (trail_of old) new
  ended_whole y = record {
    done = walk_events (stream (meant o x.front)) ++ at_unit k (closing_part s).events;
    rest = [];
    whole = events_are o all k old mid [] x
        ∙ sym (append-nil (walk_events (stream (meant o x.front)) ++ at_unit k (closing_part s).events));
    does = does_all_then at_all (trail_of old) (trail_of mid) new (walk_events (stream (meant o x.front)))
        (at_unit k (closing_part s).events) x.does y.does;
    ends = (
      ap answer_of (verdict_is o all k old mid [] x
          ∙ ap (λ v. refused_at k (full_or_cause v None) (Ok s.next.number)) y.room)
          ∙ ap (λ (r : Standing). Ok r.next.number) (sym x.stands.stands),
      refl,
    );
  }

  cuts : (F : Type 0) → StopsPlan at_all F k (trail_of mid) new (closing_part s).events
      → Cut F (meant o all) (read_units_of o all) k (trail_of old) new
  cuts F y = cut_at o all k old mid [] x F new (closing_part s).events [] plan_is y

  pub ended_at_end : (T : Type 0) (e : DecodeError)
      → EndsStream {T = T} at_all (Err e) k (trail_of mid) new s
      → Ended (Err (record { unit = k; error = e })) (meant o all) (read_units_of o all) (trail_of old) new
  ended_at_end T errors.Backend y = failed (meant o all) (read_units_of o all) k (trail_of old) new (cuts (Unit {0}) y)
  ended_at_end T errors.NoMemory y = wanted (meant o all) (read_units_of o all) k (trail_of old) new (cuts ⊥ y)
  ended_at_end T errors.DpbFull y =
      filled o all k old mid [] x new (closing_part s).events [] plan_is
      (ap answer_of (verdict_is o all k old mid [] x
      ∙ ap (λ v. refused_at k (full_or_cause v None) (Ok s.next.number)) y.full)) y.fills
  ended_at_end T e y = absurd y
