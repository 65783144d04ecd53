-- From unit to unit.
use Rattle.std.proofs.Common.{◌≡◌, ℕ, ◌+◌, ◌≤◌, List, [], ◌∷◌, ◌++◌, length, refl, sym, ◌∙◌, ap}
use Rattle.std.proofs.Common.{subst, append_assoc, append-nil, zero-add, arith, Option, Some, None}
use Rattle.std.proofs.Common.{Err, Bool, true, false, if◌then◌else◌}
use Rattle.std.specs.Prelude.{is_some}
use Rattle.std.specs.List.{AllByRecursion}
use Rattle.std.proofs.lemmas.List.{length-append}
use Rattle.hevc_spec.specs.Units.{NalUnit}
use Rattle.hevc_walk.specs.Meanings.{Meaning}
use Rattle.hevc_walk.specs.Pictures.{stream, nothing_yet}
use Rattle.hevc_walk.specs.Walk as walk
use Rattle.hevc_walk.specs.Walk.{Event, Called, Output, at_unit}
use Rattle.hevc_walk.specs.Refusals.{Cause, refusal}
use Rattle.hevc_walk.specs.Results.{walk_events, events, calls, outputs, verdict, full_or, calls_below, outputs_below}
use Rattle.hevc_walk_units.specs.Units.{Standing, unit_part, refusal_at, is_full_at, events_from}
use Rattle.hevc_walk_units.specs.Units.{verdict_from, refused_at, full_or_cause}
use Rattle.hevc_walk_agree.proofs.Joined.{at-append, refusal-same}
use Rattle.hevc_walk_agree.proofs.Cuts.{AllBelow, AllFrom, events_from-from, stream-below}
use Rattle.hevc_walk_agree.proofs.Cuts.{events-cut, verdict-cut, calls-before, outputs-before}
use Rattle.hevc_walk_agree.proofs.Moment.{moment}
use Rattle.hevc_stream.specs.Options.{Options}
use Rattle.hevc_stream.specs.Kept.{none_kept}
use Rattle.hevc_stream.specs.Stream.{meaning, kept_behind, meanings_behind}
use Rattle.hevc_driver.specs.declared.decode_error.DecodeError.{DecodeError}
use Rattle.hevc_driver.specs.declared.decode_error.DecodeError.TheVariants as errors
use Rattle.hevc_driver.specs.Given.{Given}
use Rattle.hevc_stateless.specs.Segments.{ReadUnit}
use Rattle.hevc_stateless_laws.specs.Segments.{given_of, read_units_of}
use Rattle.hevc_driver.proofs.Doing.{all_both}
use Rattle.hevc_stateless_laws.specs.Stands.{meant, standing_after, StandsAfter, kept_after}
use Rattle.hevc_stateless_laws.proofs.Keeping.{meant_last, meant_behind, length_meant}
use Rattle.hevc_decoder.specs.Names.{answer_of}
use Rattle.hevc_decoder.specs.Headline.{BeginsPicture}
use Rattle.hevc_decoder.specs.Scenes.{Scene, Trail, trail_of}
use Rattle.hevc_decoder.specs.Takes.{DoesAll, StopsPlan, FillsPlan, TakesWhole, RefusesUnit}
use Rattle.hevc_decoder.specs.Takes.{FillsUnit, HaltsUnit, TakesUnit}
use Rattle.hevc_decoder.specs.Cut.{CallFollows, UpTo, IsVerdict}
use Rattle.hevc_decoder.specs.Runs.{Reached, Ended}
use Rattle.hevc_decoder.proofs.Doing.{does_all_nothing, does_all_then}
use Rattle.hevc_decoder.proofs.Numbers.{number_grows}
use Rattle.hevc_decoder.proofs.Beginnings.{begins_picture_at}

-- ---- places of events

below_up : (k : ℕ) (es : List (ℕ × Event)) → AllBelow k es → AllByRecursion (λ e. e.0 ≤ k) es
below_up k [] a = tt
below_up k (e ∷ es) a = (let lt = a.0 in omega (arith, lt), below_up k es a.1)

from_on : (k : ℕ) (es : List (ℕ × Event)) → AllFrom k es → AllByRecursion (λ e. k ≤ e.0) es
from_on k [] a = tt
from_on k (e ∷ es) a = (a.0, from_on k es a.1)

at_up : (k : ℕ) (es : List Event) → AllByRecursion (λ e. e.0 ≤ k) (at_unit k es)
at_up k [] = tt
at_up k (e ∷ es) = (omega arith, at_up k es)

pub all_right : {X : Type 0} (P : X → Type 0) (xs ys : List X) → AllByRecursion P (xs ++ ys) → AllByRecursion P ys
all_right P [] ys a = a
all_right P (x ∷ xs) ys (p, a) = all_right P xs ys a

follows_more : (k : ℕ) (es more : List (ℕ × Event)) → CallFollows k es → CallFollows k (es ++ more)
follows_more k [] more h = absurd h
follows_more k ((j, Called call) ∷ es) more h = h
follows_more k ((j, Output number order_count) ∷ es) more h = absurd h

-- a run that is stopped within what is asked at unit k
pub record Cut {H : Type 0} (F : Type 0) (us : List Meaning) (read_units : List ReadUnit) (k : ℕ)
    (old new : Trail H) : Type 0 where
  pub done : List (ℕ × Event)
  pub rest : List (ℕ × Event)
  pub whole : events us ≡ done ++ rest
  pub does : DoesAll (given_of us read_units) old new done
  pub up : UpTo k done rest
  pub next : F → CallFollows k rest

pub failed : {H : Type 0} (us : List Meaning) (read_units : List ReadUnit) (k : ℕ) (old new : Trail H)
    → Cut (Unit {0}) us read_units k old new
    → Ended (Err (record { unit = k; error = errors.Backend })) us read_units old new
failed us read_units k old new x = record {
  done = x.done;
  rest = x.rest;
  whole = x.whole;
  does = x.does;
  ends = (x.up, x.next tt);
}

pub wanted : {H : Type 0} (us : List Meaning) (read_units : List ReadUnit) (k : ℕ) (old new : Trail H)
    → Cut ⊥ us read_units k old new → Ended (Err (record { unit = k; error = errors.NoMemory })) us read_units old new
wanted us read_units k old new x = record { done = x.done; rest = x.rest; whole = x.whole; does = x.does; ends = x.up }

-- ---- after some units

module _ {B H : Type 0} (o : Options) (all : List NalUnit) (k : ℕ) (old mid : Scene B H)
    (later : List NalUnit) (x : Reached o all k old mid later) where
  abbrev ms : List Meaning
  ms = meant o x.front

  abbrev S : Standing
  S = standing_after ms

  -- what the units from here on mean
  abbrev back : List Meaning
  back = meanings_behind o (kept_after o x.front) later

  abbrev us : List Meaning
  us = meant o all

  abbrev at_all : ℕ → Given
  at_all = given_of us (read_units_of o all)

  pub meant_is : us ≡ ms ++ back
  meant_is = ap (meant o) x.whole ∙ meant_behind o none_kept x.front later

  pub place_is : length ms ≡ k
  place_is = length_meant o none_kept x.front ∙ x.place

  pub events_are : events us ≡ walk_events (stream ms) ++ events_from S k back
  events_are = ap events meant_is ∙ events-cut ms back x.stands.goes_on
      ∙ ap (λ (n : ℕ). walk_events (stream ms) ++ events_from S n back) place_is

  pub verdict_is : verdict us ≡ verdict_from S k back
  verdict_is = ap verdict meant_is ∙ verdict-cut ms back x.stands.goes_on
      ∙ ap (λ (f : Option ℕ). full_or f (verdict_from S (length ms) back)) x.stands.room
      ∙ ap (λ (n : ℕ). verdict_from S n back) place_is

  pub below : AllBelow k (walk_events (stream ms))
  below = subst (λ (n : ℕ). AllBelow n (walk_events (stream ms))) (zero-add (length ms) ∙ place_is)
      (stream-below 0 nothing_yet ms x.stands.goes_on tt)

  -- stopped within a plan that comes next
  pub cut_at : (F : Type 0) (new : Trail H) (plan : List Event) (more : List (ℕ × Event))
      → events_from S k back ≡ at_unit k plan ++ more → StopsPlan at_all F k (trail_of mid) new plan
      → Cut F us (read_units_of o all) k (trail_of old) new
  cut_at F new plan more is y =
      let here : events_from S k back ≡ at_unit k y.done ++ (at_unit k y.rest ++ more) =
      is ∙ ap (λ es. at_unit k es ++ more) y.whole ∙ ap (λ es. es ++ more) (at-append k y.done y.rest)
      ∙ append_assoc (at_unit k y.done) (at_unit k y.rest) more in
      record {
        done = walk_events (stream ms) ++ at_unit k y.done;
        rest = at_unit k y.rest ++ more;
        whole = events_are ∙ ap (λ es. walk_events (stream ms) ++ es) here
            ∙ sym (append_assoc (walk_events (stream ms)) (at_unit k y.done) (at_unit k y.rest ++ more));
        does = does_all_then at_all (trail_of old) (trail_of mid) new (walk_events (stream ms))
            (at_unit k y.done) x.does y.does;
        up = record {
          done_before =
              all_both (λ e. e.0 ≤ k) (walk_events (stream ms)) (at_unit k y.done)
              (below_up k (walk_events (stream ms)) below) (at_up k y.done);
          rest_behind =
              all_right (λ e. k ≤ e.0) (at_unit k y.done) (at_unit k y.rest ++ more)
              (subst (AllByRecursion (λ e. k ≤ e.0)) here
              (from_on k (events_from S k back) (events_from-from k k S back (omega arith))));
        };
        next = λ f. let c =
            y.next f in follows_more k (at_unit k y.rest) more
            (subst (λ es. CallFollows k (at_unit k es)) (sym c.rest_is) refl);
      }

  -- a picture finds the buffer full
  pub filled : (new : Trail H) (plan : List Event) (more : List (ℕ × Event))
      → events_from S k back ≡ at_unit k plan ++ more
      → answer_of (verdict us) ≡ Err (record { unit = k; error = errors.DpbFull })
      → FillsPlan at_all k (trail_of mid) new plan
      → Ended (Err (record { unit = k; error = errors.DpbFull })) us (read_units_of o all) (trail_of old) new
  filled new plan more is answer y = record {
    done = walk_events (stream ms) ++ (k, Called (walk.SubmitPicture y.number)) ∷ [];
    rest = at_unit k y.rest ++ more;
    whole = events_are
        ∙ ap (λ es. walk_events (stream ms) ++ es) (is ∙ ap (λ es. at_unit k es ++ more) y.whole)
        ∙ sym (append_assoc (walk_events (stream ms)) ((k, Called (walk.SubmitPicture y.number)) ∷ [])
        (at_unit k y.rest ++ more));
    does = does_all_then at_all (trail_of old) (trail_of mid) new (walk_events (stream ms))
        ((k, Called (walk.SubmitPicture y.number)) ∷ []) x.does y.does;
    ends = (
      answer,
      record {
        before = walk_events (stream ms);
        number = y.number;
        done_is = refl;
        calls = ap (λ (l : List Meaning). calls_below k (calls l)) meant_is
            ∙ ap (λ (n : ℕ). calls_below n (calls (ms ++ back))) (sym place_is) ∙ calls-before ms back x.stands.goes_on;
        outputs = ap (λ (l : List Meaning). outputs_below k (outputs l)) meant_is
            ∙ ap (λ (n : ℕ). outputs_below n (outputs (ms ++ back))) (sym place_is)
            ∙ outputs-before ms back x.stands.goes_on;
      },
    );
  }

-- no unit is after the last one
pub reached_within : {B H : Type 0} (o : Options) (all : List NalUnit) (k : ℕ) (old mid : Scene B H)
    (later : List NalUnit) → Reached o all k old mid later → k ≤ length all
reached_within o all k old mid later x = let whole = ap (λ (l : List NalUnit). length l) x.whole in
    let both = length-append x.front later in omega (arith, whole, both, x.place)

-- ---- one more unit

module _ {B H : Type 0} (o : Options) (all : List NalUnit) (k : ℕ) (old mid : Scene B H) (u : NalUnit)
    (later : List NalUnit) (x : Reached o all k old mid (u ∷ later)) where
  abbrev at_here : ℕ → Given
  at_here = given_of (meant o all) (read_units_of o all)

  abbrev front_meant : List Meaning
  front_meant = meant o x.front

  abbrev s : Standing
  s = standing_after front_meant

  abbrev y : Meaning
  y = meaning o (kept_after o x.front) u.bytes

  abbrev ys : List Meaning
  ys = meanings_behind o (kept_behind o (kept_after o x.front) u.bytes) later

  abbrev rest_of : Option Cause → List (ℕ × Event)
  rest_of c = if is_some c then [] else events_from (unit_part y s).next (k + 1) ys

  verdict_by : (b : Bool) (c : Option Cause) → is_full_at y s ≡ b → refusal_at y s ≡ c
      → verdict (meant o all) ≡ refused_at k (full_or_cause b c) (verdict_from (unit_part y s).next (k + 1) ys)
  verdict_by b c full is = verdict_is o all k old mid (u ∷ later) x
      ∙ ap (λ v. refused_at k (full_or_cause v (refusal_at y s))
      (verdict_from (unit_part y s).next (k + 1) ys)) full
      ∙ ap (λ (d : Option Cause). refused_at k (full_or_cause b d) (verdict_from (unit_part y s).next (k + 1) ys)) is

  pub reached_more : (new : Scene B H) → TakesWhole at_here k (trail_of mid) (trail_of new) y s
      → StandsAfter o (x.front ++ u ∷ []) new.seen → new.seen.view.queue ≡ [] → Reached o all (k + 1) old new later
  reached_more new t stands empty =
      let fine : refusal (stream front_meant) y ≡ None = sym (refusal-same (stream front_meant) y) ∙ t.goes_on in
      let m = moment front_meant y fine in
      let list = meant_last o none_kept x.front u in
      let at = place_is o all k old mid (u ∷ later) x in
      record {
        front = x.front ++ u ∷ [];
        whole = x.whole ∙ sym (append_assoc x.front (u ∷ []) later);
        place = let more = length_last x.front in let same = x.place in omega (arith, more, same);
        stands = stands;
        empty = empty;
        few = let grows = number_grows y s in let few = x.few in let old_is =
            ap (λ (r : Standing). r.next.number) x.stands.stands in let new_is =
            ap (λ (r : Standing). r.next.number) (stands.stands ∙ ap standing_after list ∙ sym m.next) in
            omega (arith, grows, few, old_is, new_is);
        does = subst (DoesAll at_here (trail_of old) (trail_of new))
            (ap (λ (n : ℕ). walk_events (stream front_meant) ++ at_unit n (unit_part y s).events) (sym at)
            ∙ sym m.events ∙ ap (λ (l : List Meaning). walk_events (stream l)) (sym list))
            (does_all_then at_here (trail_of old) (trail_of mid) (trail_of new)
            (walk_events (stream front_meant)) (at_unit k (unit_part y s).events) x.does t.does);
      }
    where
      length_last : (us : List NalUnit) → length (us ++ u ∷ []) ≡ length us + 1
      length_last [] = refl
      length_last (v ∷ vs) = let more = length_last vs in omega (arith, more)

  stopped : (F : Type 0) (new : Trail H) → StopsPlan at_here F k (trail_of mid) new (unit_part y s).events
      → Cut F (meant o all) (read_units_of o all) k (trail_of old) new
  stopped F new t = cut_at o all k old mid (u ∷ later) x F new (unit_part y s).events (rest_of (refusal_at y s)) refl t

  halted : (frames : ℕ) (new : Trail H) → HaltsUnit at_here frames k (trail_of mid) new y s
      → Ended (Err (record { unit = k; error = errors.NotEnoughOutputBuffers frames })) (meant o all)
      (read_units_of o all) (trail_of old) new
  halted frames new t =
      let c = stopped ⊥ new t.stops in
      let begun = subst (BeginsPicture k) (sym (meant_is o all k old mid (u ∷ later) x))
      (subst (λ (n : ℕ). BeginsPicture n (front_meant ++ y ∷ ys)) (place_is o all k old mid (u ∷ later) x)
      (begins_picture_at front_meant y ys t.begins)) in
      record { done = c.done; rest = c.rest; whole = c.whole; does = c.does; ends = (t.told, begun, c.up) }

  full_unit : (new : Trail H) → FillsUnit at_here k (trail_of mid) new y s
      → Ended (Err (record { unit = k; error = errors.DpbFull })) (meant o all) (read_units_of o all) (trail_of old) new
  full_unit new t =
      filled o all k old mid (u ∷ later) x new (unit_part y s).events (rest_of (refusal_at y s)) refl
      (ap answer_of (verdict_by true (refusal_at y s) t.full refl)) t.fills

  refused_by : (e : DecodeError) (new : Trail H) (t : RefusesUnit at_here e k (trail_of mid) new y s)
      → IsVerdict (record { unit = k; error = e }) (meant o all)
      × (events (meant o all) ≡ (walk_events (stream front_meant) ++ at_unit k (unit_part y s).events) ++ [])
  refused_by e new t = (
    ap answer_of (verdict_by false (Some t.cause) t.room t.refused)
        ∙ ap (λ (d : DecodeError). Err (record { unit = k; error = d })) t.named,
    events_are o all k old mid (u ∷ later) x ∙ ap (λ es. walk_events (stream front_meant) ++ es)
        (ap (λ (c : Option Cause). at_unit k (unit_part y s).events ++ rest_of c) t.refused
        ∙ append-nil (at_unit k (unit_part y s).events))
        ∙ sym (append-nil (walk_events (stream front_meant) ++ at_unit k (unit_part y s).events)),
  )

  pub ended_refused : (T : Type 0) (e : DecodeError) (new : Trail H)
      → TakesUnit {T = T} at_here (Err e) k (trail_of mid) new y s
      → Ended (Err (record { unit = k; error = e })) (meant o all) (read_units_of o all) (trail_of old) new
  ended_refused T errors.Backend new t =
      failed (meant o all) (read_units_of o all) k (trail_of old) new (stopped (Unit {0}) new t)
  ended_refused T errors.NoMemory new t =
      wanted (meant o all) (read_units_of o all) k (trail_of old) new (stopped ⊥ new t)
  ended_refused T errors.DpbFull new t = full_unit new t
  ended_refused T (errors.NotEnoughOutputBuffers frames) new t = halted frames new t
  ended_refused T errors.NoNal new t = absurd t
  ended_refused T errors.CheckEvents new t = absurd t
  ended_refused T errors.PictureNumbersSpent new t = absurd t
  ended_refused T e new t = let z = refused_by e new t in record {
    done = walk_events (stream front_meant) ++ at_unit k (unit_part y s).events;
    rest = [];
    whole = z.1;
    does = does_all_then at_here (trail_of old) (trail_of mid) new (walk_events (stream front_meant))
        (at_unit k (unit_part y s).events) x.does t.does;
    ends = (z.0, refl);
  }

-- at the beginning
pub reached_first : {B H : Type 0} (o : Options) (all : List NalUnit) (now : Scene B H)
    → StandsAfter o [] now.seen → now.seen.view.queue ≡ [] → now.seen.view.standing.next.number ≡ 0
    → Reached o all 0 now now all
reached_first o all now stands empty none = record {
  front = [];
  whole = refl;
  place = refl;
  stands = stands;
  empty = empty;
  few = omega (arith, none);
  does = does_all_nothing (given_of (meant o all) (read_units_of o all)) (trail_of now) (trail_of now) refl;
}
