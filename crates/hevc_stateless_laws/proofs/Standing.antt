-- From a step to the moment of each call and output.
use Rattle.std.proofs.Common.{◌≡◌, ℕ, ℤ, List, [], ◌∷◌, ◌++◌, map, length, refl, sym, ◌∙◌, ap}
use Rattle.std.proofs.Common.{subst, Option, Some, None, Result, Ok, Err, Bool, true, false, ◌||◌}
use Rattle.std.specs.List.{flat_map}
use Rattle.std.specs.Prelude.{is_some}
use Rattle.hevc_spec.specs.Units.{NalUnit}
use Rattle.hevc_spec.specs.UnitHeader.{UnitHeader, HeaderFault, unit_header}
use Rattle.hevc_walk.specs.Meanings.{Format, Meaning, SequenceSet, CodedSlice, EndOfSequence}
use Rattle.hevc_walk.specs.Meanings.{EndOfBitstream, Other, Refused}
use Rattle.hevc_walk.specs.Pictures.{stream}
use Rattle.hevc_walk.specs.Walk.{Event, Called, Output, Part, at_unit}
use Rattle.hevc_walk.specs.Refusals.{Cause, refusal, first_refusal, stop}
use Rattle.hevc_walk.specs.Results.{calls, outputs, calls_in, outputs_in, calls_of_unit, outputs_of_unit}
use Rattle.hevc_walk_units.specs.Units.{Standing, unit_part, refusal_at, is_full_at}
use Rattle.std.proofs.Common.{cond}
use Rattle.hevc_walk.specs.Walk.{earlier_of}
use Rattle.hevc_walk_agree.specs.Standings.{full_by}
use Rattle.hevc_walk_agree.proofs.Moment.{moment}
use Rattle.hevc_walk_agree.proofs.Ends.{stop-last}
use Rattle.hevc_walk_agree.proofs.Joined.{refusal-same}
use Rattle.hevc_walk_agree.proofs.Cuts.{calls-at, outputs-at}
use Rattle.hevc_stream.specs.Options.{Options}
use Rattle.hevc_stream.specs.Kept.{Kept, none_kept}
use Rattle.hevc_stream.specs.Stream.{meaning, kept_behind}
use Rattle.hevc_bumping.specs.declared.frame.Frame.{Frame}
use Rattle.hevc_bumping.specs.Frames.{frame_output}
use Rattle.hevc_driver.specs.Does.{call_in, output_in}
use Rattle.hevc_driver.specs.Moments.{step_part, negotiates}
use Rattle.hevc_driver.specs.Takes.{Goes}
use Rattle.hevc_stateless.specs.declared.state.State.{State}
use Rattle.hevc_stateless.specs.declared.state.State.TheVariants.{Decoding}
use Rattle.hevc_stateless.specs.States.{Unit, unit_at, is_sequence_set, state_behind, meaning_in, is_awaited}
use Rattle.hevc_stateless.specs.Steps.{Seen, Step, StepsIn, StepsBehind, TakesFirst, given_to}
use Rattle.hevc_stateless.specs.Views.{traces_of}
use Rattle.hevc_stateless_laws.specs.Stands.{state_by, meant, standing_after, StandsAfter}
use Rattle.hevc_stateless_laws.specs.Stands.{given_next, frame_at, asked, Took}
use Rattle.hevc_stateless_laws.proofs.Means.{Means, none_means, means}
use Rattle.hevc_stateless_laws.proofs.Given.{handed_calls, given_first, latest_first}
use Rattle.hevc_driver.specs.Given.{Given, handed_by}
use Rattle.hevc_backend.specs.Trait.{logged}
use Rattle.hevc_stateless_laws.proofs.Accepting.{stays_accepted}
use Rattle.hevc_stateless_laws.proofs.Keeping.{meant_last, kept_last, length_meant, kept_has, is_coded, none_coded}

-- ---- calls and outputs of a unit

pub calls_are : (k : ℕ) (es : List Event) → map asked (calls_in (at_unit k es)) ≡ flat_map call_in es
calls_are k [] = refl
calls_are k (Called c ∷ es) = ap (λ l. c ∷ l) (calls_are k es)
calls_are k (Output n o ∷ es) = calls_are k es

pub outputs_are : {H : Type 0} (k : ℕ) (es : List Event) (out : List (Frame H))
    → map frame_output out ≡ flat_map output_in es → map (frame_at k) out ≡ outputs_in (at_unit k es)
outputs_are k [] [] e = refl
outputs_are k [] (f ∷ fs) e = absurd (cc e)
outputs_are k (Called c ∷ es) out e = outputs_are k es out e
outputs_are k (Output n o ∷ es) [] e = absurd (cc e)
outputs_are {H} k (Output n o ∷ es) (f ∷ fs) e =
    let first : frame_output {H = H} f ≡ (n, o) = cc e in
    let later : map frame_output fs ≡ flat_map output_in es = cc e in
    ap (λ (p : ℕ × ℤ). record { number = p.0; order_count = p.1; unit = k } ∷ map (frame_at {H = H} k) fs)
    first ∙ ap (λ l. record { number = n; order_count = o; unit = k } ∷ l) (outputs_are k es fs later)

-- ---- states and formats

state_stays : (a : Option Format) (v : Unit) → state_behind (state_by a) v ≡ state_by a
state_stays None v = refl
state_stays (Some f) v = refl

pub is_decoding : (a : Option Format) → is_some a ≡ true → state_by a ≡ Decoding
is_decoding None e = absurd (cc e)
is_decoding (Some f) e = refl

-- before the first sequence set nothing is accepted
no_format : (y : Meaning) (s : Standing) → is_sequence_set y ≡ false → is_coded y ≡ false
    → s.store.accepted ≡ None → (unit_part y s).next.store.accepted ≡ None
no_format (SequenceSet f) s isnt slice none = absurd (cc isnt)
no_format (CodedSlice w) s isnt slice none = absurd (cc slice)
no_format EndOfSequence s isnt slice none = none
no_format EndOfBitstream s isnt slice none = none
no_format Other s isnt slice none = none
no_format (Refused c) s isnt slice none = none

no_negotiation : (y : Meaning) (s : Standing) → negotiates y s ≡ false → is_sequence_set y ≡ false
no_negotiation (SequenceSet f) s isnt = absurd (cc isnt)
no_negotiation (CodedSlice w) s isnt = refl
no_negotiation EndOfSequence s isnt = refl
no_negotiation EndOfBitstream s isnt = refl
no_negotiation Other s isnt = refl
no_negotiation (Refused c) s isnt = refl

pub or_true : (b : Bool) → (b || true) ≡ true
or_true true = refl
or_true false = refl

-- ---- one more unit

module _ {B H : Type 0} (t : ℕ) (o : Options) (us : List NalUnit) (u : NalUnit) (h : UnitHeader)
    (old new : Seen B H) (v : ℕ) (after : StandsAfter o us old) (parsed : unit_header u.bytes ≡ Ok h)
    (step : Step (Ok v) (given_next t o us u) o h u.bytes old new) where
  abbrev ms : List Meaning
  ms = meant o us

  abbrev y : Meaning
  y = meaning o old.kept u.bytes

  abbrev a : Option Format
  a = (standing_after ms).store.accepted

  abbrev taken : Unit
  taken = unit_at o old.kept h u.bytes

  list : meant o (us ++ u ∷ []) ≡ ms ++ y ∷ []
  list = meant_last o none_kept us u ∙ ap (λ (k : Kept). ms ++ meaning o k u.bytes ∷ []) (sym after.kept)

  accepted : old.view.standing.store.accepted ≡ a
  accepted = ap (λ (s : Standing). s.store.accepted) after.stands

  same : Means (meaning_in (state_by a) taken) y old.view.standing
  same = means o old.kept u.bytes h parsed a old.view.standing accepted after.started

  goes : Goes (given_next t o us u) (traces_of old.log old.handed old.asked old.view)
      (traces_of new.log new.handed new.asked new.view) (meaning_in (state_by a) taken) old.view.standing
      new.view.standing
  goes = subst
      (λ (x : State). Goes (given_next t o us u) (traces_of old.log old.handed old.asked old.view)
      (traces_of new.log new.handed new.asked new.view)
      (meaning_in x taken) old.view.standing new.view.standing) after.state_is step.takes.part

  part_is : step_part (meaning_in (state_by a) taken) old.view.standing ≡ unit_part y (standing_after ms)
  part_is = same.part ∙ ap (unit_part y) after.stands

  fine : refusal (stream ms) y ≡ None
  fine = sym (refusal-same (stream ms) y) ∙ ap (refusal_at y) (sym after.stands) ∙ sym same.refusal ∙ goes.goes_on

  next : new.view.standing ≡ standing_after (ms ++ y ∷ [])
  next = goes.completes.next ∙ ap (λ (q : Part Standing). q.next) part_is ∙ (moment ms y fine).next

  stays : new.view.state ≡ state_by a
  stays = step.takes.state ∙ ap (λ (x : State). state_behind x taken) after.state_is ∙ state_stays a taken

  left : new.view.standing ≡ (unit_part y old.view.standing).next
  left = goes.completes.next ∙ ap (λ (q : Part Standing). q.next) same.part

  has : new.kept.has_sequence_set ≡ (is_sequence_set y || old.kept.has_sequence_set)
  has = ap (λ (k : Kept). k.has_sequence_set) step.kept ∙ kept_has o old.kept u.bytes

  -- the format and the sets that are kept begin together
  together : (f : Option Format) → a ≡ f → (state_by a ≡ state_by new.view.standing.store.accepted)
      × (is_some new.view.standing.store.accepted ≡ new.kept.has_sequence_set)
  together None is =
      let none : old.kept.has_sequence_set ≡ false = sym after.started ∙ ap is_some is in
      let means_y : meaning_in (state_by a) taken ≡ y =
      ap (λ (f : Option Format). meaning_in (state_by f) taken) is ∙ none_means o old.kept u.bytes h parsed none in
      let isnt : is_sequence_set y ≡ false =
      no_negotiation y old.view.standing (ap (λ (m : Meaning). negotiates m old.view.standing) (sym means_y)
      ∙ goes.accepted) in
      let none_now : new.view.standing.store.accepted ≡ None = ap (λ (s : Standing). s.store.accepted) left
      ∙ no_format y old.view.standing isnt (none_coded o old.kept u.bytes h parsed none) (accepted ∙ is) in (
        ap state_by is ∙ ap state_by (sym none_now),
        ap is_some none_now
            ∙ sym (has ∙ ap (λ (b : Bool). b || old.kept.has_sequence_set) isnt ∙ none),
      )
  together (Some f) is =
      let some : old.kept.has_sequence_set ≡ true = sym after.started ∙ ap is_some is in
      let now : is_some new.view.standing.store.accepted ≡ true =
      ap (λ (s : Standing). is_some s.store.accepted) left
      ∙ stays_accepted y old.view.standing (ap is_some (accepted ∙ is)) in (
        ap state_by is ∙ sym (is_decoding new.view.standing.store.accepted now),
        now
            ∙ sym (has ∙ ap (λ (b : Bool). is_sequence_set y || b) some ∙ or_true (is_sequence_set y)),
      )

  next_list : new.view.standing ≡ standing_after (meant o (us ++ u ∷ []))
  next_list = next ∙ ap standing_after (sym list)

  full_now : is_full_at y (standing_after ms) ≡ false
  full_now = ap (is_full_at y) (sym after.stands) ∙ sym same.full ∙ goes.room

  room_now : full_by (stream (meant o (us ++ u ∷ []))) ≡ None
  room_now = ap (λ (l : List Meaning). full_by (stream l)) list ∙ (moment ms y fine).full
      ∙ ap (λ (f : Option ℕ). earlier_of f
      (cond (is_full_at y (standing_after ms)) (Some (length ms)) None)) after.room
      ∙ ap (λ (b : Bool). cond b (Some (length ms)) None) full_now

  here : {A : Type 0} (P : ℕ → List Meaning → A) → P (length us) (meant o (us ++ u ∷ [])) ≡ P (length ms) (ms ++ y ∷ [])
  here P = ap (λ (n : ℕ). P n (meant o (us ++ u ∷ []))) (sym (length_meant o none_kept us)) ∙ ap (P (length ms)) list

  asked_is : flat_map call_in (step_part (meaning_in (state_by a) taken) old.view.standing).events
      ≡ map asked (calls_of_unit (length us) (calls (meant o (us ++ u ∷ []))))
  asked_is = ap (λ (q : Part Standing). flat_map call_in q.events) part_is
      ∙ sym (calls_are (length ms) (unit_part y (standing_after ms)).events)
      ∙ sym (ap (map asked) (calls-at ms y [] after.goes_on))
      ∙ sym (here (λ n l. map asked (calls_of_unit n (calls l))))

  -- A unit was taken after some units.
  pub took : Took t o us u old new
  took = record {
    stands = record {
      goes_on = ap stop list ∙ stop-last ms y after.goes_on
          ∙ ap (λ (c : Option Cause). first_refusal (length ms) c None) fine;
      stands = next_list;
      state_is = stays ∙ (together a refl).0 ∙ ap (λ (s : Standing). state_by s.store.accepted) next_list;
      room = room_now;
      kept = step.kept ∙ ap (λ (k : Kept). kept_behind o k u.bytes) after.kept ∙ sym (kept_last o none_kept us u);
      latest = step.takes.latest ∙ latest_first o us u h old after parsed;
      started = ap (λ (s : Standing). is_some s.store.accepted) (sym next_list) ∙ (together a refl).1;
    };
    calls = record {
      made = goes.completes.does.calls;
      log = goes.completes.does.log;
      calls_are = goes.completes.does.made ∙ asked_is;
      timed = goes.completes.does.timed;
      handed = goes.completes.does.handed
          ∙ ap (logged old.handed)
          (handed_calls (given_next t o us u)
          (step_part (meaning_in (state_by a) taken) old.view.standing).events
          ∙ ap (flat_map (handed_by (given_next t o us u))) asked_is);
    };
    outputs = record {
      out = goes.completes.does.out;
      queue = goes.completes.does.queue;
      outputs_are =
          ap (λ (n : ℕ). map (frame_at n) goes.completes.does.out) (sym (length_meant o none_kept us))
          ∙ outputs_are (length ms) (unit_part y (standing_after ms)).events goes.completes.does.out
          (goes.completes.does.shown ∙ ap (λ (q : Part Standing). flat_map output_in q.events) part_is)
          ∙ sym (outputs-at ms y [] after.goes_on) ∙ sym (here (λ n l. outputs_of_unit n (outputs l)));
    };
  }

-- no format is awaited where a decoder is
pub going_by : (a : Option Format) → is_awaited (state_by a) ≡ false
going_by None = refl
going_by (Some f) = refl

-- ---- a call that answers Ok

steps_of : {B H : Type 0} (v t : ℕ) (o : Options) (us : List NalUnit) (u : NalUnit) (h : UnitHeader)
    (old new : Seen B H) → StandsAfter o us old → unit_header u.bytes ≡ Ok h
    → StepsIn (Ok v) t o h u.bytes old new → Step (Ok v) (given_next t o us u) o h u.bytes old new
steps_of {B} {H} v t o us u h old new after parsed y =
    subst (λ (g : Given). Step (Ok v) g o h u.bytes old new) (given_first o us u h old after parsed t)
    (by (is_awaited old.view.state) refl)
  where
    by : (b : Bool) → is_awaited old.view.state ≡ b → Step (Ok v) (given_to t o h u.bytes old) o h u.bytes old new
    by true waits = absurd (cc (y.awaited waits).0)
    by false going = y.taken going

pub took_first : {B H : Type 0} (t : ℕ) (o : Options) (us others : List NalUnit) (u : NalUnit)
    (old new : Seen B H) (v : ℕ) → StandsAfter o us old → TakesFirst (u ∷ others) (Ok v) t o old new
    → Took t o us u old new
took_first t o us others u old new v after takes = by (unit_header u.bytes) refl takes.0
  where
    by : (r : Result UnitHeader HeaderFault) → unit_header u.bytes ≡ r
        → StepsBehind r (Ok v) t o u.bytes old new → Took t o us u old new
    by (Ok h) is step = took t o us u h old new v after is (steps_of v t o us u h old new after is step)
    by (Err fault) is step = absurd (cc step.0)
