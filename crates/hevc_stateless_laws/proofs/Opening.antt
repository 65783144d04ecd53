-- A unit that opens a negotiation.
use Rattle.std.proofs.Common.{◌≡◌, ℕ, List, [], ◌∷◌, ◌++◌, map, length, refl, sym, ◌∙◌, ap, subst}
use Rattle.std.proofs.Common.{Option, Result, Ok, Err}
use Rattle.std.specs.List.{flat_map}
use Rattle.std.proofs.lemmas.List.{append-nil}
use Rattle.std.proofs.lemmas.Grind.{flat_map-append}
use Rattle.hevc_spec.specs.Units.{NalUnit}
use Rattle.hevc_spec.specs.UnitHeader as headers
use Rattle.hevc_spec.specs.UnitHeader.{UnitHeader, HeaderFault, unit_header}
use Rattle.hevc_walk.specs.Meanings.{Format, Meaning}
use Rattle.hevc_walk.specs.Walk.{Part}
use Rattle.hevc_walk.specs.Results.{outputs, outputs_of_unit}
use Rattle.hevc_walk_units.specs.Units.{Standing, unit_part}
use Rattle.hevc_walk_agree.proofs.Cuts.{outputs-at}
use Rattle.hevc_stream.specs.Options.{Options}
use Rattle.hevc_stream.specs.Kept.{Kept, none_kept}
use Rattle.hevc_stream.specs.Contents.{content, header_cause}
use Rattle.hevc_stream.specs.Stream.{meaning}
use Rattle.hevc_driver.specs.declared.decode_error.DecodeError.TheVariants as errors
use Rattle.hevc_driver.specs.Errors.{cause_error}
use Rattle.hevc_driver.specs.Does.{output_in}
use Rattle.hevc_driver.specs.Moments.{opening, step_part}
use Rattle.hevc_driver.specs.Takes.{Opens}
use Rattle.hevc_stateless.specs.declared.state.State.{State}
use Rattle.hevc_stateless.specs.States.{unit_at, later_meaning, meaning_in, is_awaited}
use Rattle.hevc_stateless.specs.Steps.{Seen, Step, StepsIn, StepsBehind, TakesFirst, with_read_set}
use Rattle.hevc_stateless.specs.Views.{traces_of}
use Rattle.hevc_stateless_laws.specs.Stands.{state_by, meant, standing_after, StandsAfter, frame_at}
use Rattle.hevc_stateless_laws.specs.Stands.{kept_after, first_meaning, meant_next, Opened}
use Rattle.hevc_driver.specs.Given.{Given}
use Rattle.hevc_backend.specs.Trait.{logged}
use Rattle.hevc_stateless_laws.specs.Stands.{given_next}
use Rattle.hevc_stateless_laws.proofs.Given.{handed_calls, given_first, latest_first}
use Rattle.hevc_stateless_laws.proofs.Keeping.{meant_last, length_meant}
use Rattle.hevc_stateless_laws.proofs.Standing.{outputs_are, going_by}
use Rattle.hevc_stateless_laws.proofs.Means.{first_is}
use Rattle.hevc_stateless_laws.proofs.Twice.{TwiceBy, twice, quiet}

module _ {B H : Type 0} (t : ℕ) (o : Options) (us : List NalUnit) (u : NalUnit) (h : UnitHeader)
    (old new : Seen B H) (after : StandsAfter o us old) (parsed : unit_header u.bytes ≡ Ok h)
    (step : Step {T = ℕ} (Err errors.CheckEvents) (given_next t o us u) o h u.bytes old new) where
  abbrev ms : List Meaning
  ms = meant o us

  abbrev S : Standing
  S = standing_after ms

  abbrev a : Option Format
  a = S.store.accepted

  abbrev y : Meaning
  y = meaning o (kept_after o us) u.bytes

  meant_is : meaning_in (state_by a) (unit_at o old.kept h u.bytes) ≡ meant_next o us u
  meant_is = first_is o old.kept u.bytes h parsed a after.started
      ∙ ap (λ (k : Kept). first_meaning a (meaning o k u.bytes)) after.kept

  pub opens : Opens (given_next t o us u) (traces_of old.log old.handed old.asked old.view)
      (traces_of new.log new.handed new.asked new.view) (meant_next o us u) S new.view.standing
  opens = subst
      (λ (m : Meaning). Opens (given_next t o us u) (traces_of old.log old.handed old.asked old.view)
      (traces_of new.log new.handed new.asked new.view) m S new.view.standing) meant_is
      (subst (λ (s : Standing). Opens (given_next t o us u)
      (traces_of old.log old.handed old.asked old.view) (traces_of new.log new.handed new.asked new.view)
      (meaning_in (state_by a) (unit_at o old.kept h u.bytes)) s new.view.standing) after.stands
      (subst (λ (x : State). Opens (given_next t o us u) (traces_of old.log old.handed old.asked old.view)
      (traces_of new.log new.handed new.asked new.view)
      (meaning_in x (unit_at o old.kept h u.bytes)) old.view.standing new.view.standing) after.state_is
      step.takes.part))

  tw : TwiceBy (opening (meant_next o us u) S) (later_meaning y) y S
  tw = twice a y S refl opens.negotiates

  all : flat_map output_in (unit_part y S).events ≡ flat_map output_in (opening (meant_next o us u) S).events
  all = ap (λ (q : Part Standing). flat_map output_in q.events) tw.part
      ∙ flat_map-append output_in (opening (meant_next o us u) S).events
      (step_part (later_meaning y) (opening (meant_next o us u) S).next).events
      ∙ ap (λ l. flat_map output_in (opening (meant_next o us u) S).events ++ l) (quiet a y S refl opens.negotiates)
      ∙ append-nil (flat_map output_in (opening (meant_next o us u) S).events)

  here : {A : Type 0} (P : ℕ → List Meaning → A) → P (length us) (meant o (us ++ u ∷ [])) ≡ P (length ms) (ms ++ y ∷ [])
  here P = ap (λ (n : ℕ). P n (meant o (us ++ u ∷ []))) (sym (length_meant o none_kept us))
      ∙ ap (P (length ms)) (meant_last o none_kept us u)

  pub opened : Opened t o us u old new
  opened = record {
    between = record {
      goes_on = after.goes_on;
      negotiates = opens.negotiates;
      room = after.room;
      space = opens.room;
      stands = opens.completes.next;
      kept = step.kept ∙ ap (λ (k : Kept). with_read_set (content o k u.bytes) k) after.kept;
      latest = step.takes.latest ∙ latest_first o us u h old after parsed;
      started = after.started ∙ ap (λ (k : Kept). k.has_sequence_set) after.kept;
    };
    state_is = step.takes.state;
    calls = record {
      made = opens.completes.does.calls;
      log = opens.completes.does.log;
      calls_are = opens.completes.does.made;
      timed = opens.completes.does.timed;
      handed = opens.completes.does.handed
          ∙ ap (logged old.handed) (handed_calls (given_next t o us u) (opening (meant_next o us u) S).events);
    };
    outputs = record {
      out = opens.completes.does.out;
      queue = opens.completes.does.queue;
      outputs_are = outputs_are_at;
    };
  }
    where
      outputs_are_at : map (frame_at (length us)) opens.completes.does.out ≡ outputs_of_unit (length us)
          (outputs (meant o (us ++ u ∷ [])))
      outputs_are_at =
          ap (λ (n : ℕ). map (frame_at n) opens.completes.does.out) (sym (length_meant o none_kept us))
          ∙ outputs_are (length ms) (unit_part y S).events opens.completes.does.out
          (opens.completes.does.shown ∙ sym all) ∙ sym (outputs-at ms y [] after.goes_on)
          ∙ sym (here (λ n l. outputs_of_unit n (outputs l)))

no_check : (fault : HeaderFault) → cause_error (header_cause fault) ≡ errors.CheckEvents → ⊥
no_check headers.truncated is = cc is
no_check (headers.unspecified_type n) is = cc is
no_check headers.temporal_id_zero is = cc is

checks_of : {B H : Type 0} (t : ℕ) (o : Options) (us : List NalUnit) (u : NalUnit) (h : UnitHeader)
    (old new : Seen B H) → StandsAfter o us old → unit_header u.bytes ≡ Ok h
    → StepsIn {T = ℕ} (Err errors.CheckEvents) t o h u.bytes old new
    → Step {T = ℕ} (Err errors.CheckEvents) (given_next t o us u) o h u.bytes old new
checks_of t o us u h old new after parsed y =
    subst (λ (g : Given). Step {T = ℕ} (Err errors.CheckEvents) g o h u.bytes old new)
    (given_first o us u h old after parsed t)
    (y.taken (ap is_awaited after.state_is ∙ going_by (standing_after (meant o us)).store.accepted))

pub opens_first : {B H : Type 0} (t : ℕ) (o : Options) (us others : List NalUnit) (u : NalUnit)
    (old new : Seen B H) → StandsAfter o us old
    → TakesFirst (u ∷ others) (Err errors.CheckEvents) t o old new → Opened t o us u old new
opens_first t o us others u old new after takes = by (unit_header u.bytes) refl takes.0
  where
    by : (r : Result UnitHeader HeaderFault) → unit_header u.bytes ≡ r
        → StepsBehind {T = ℕ} r (Err errors.CheckEvents) t o u.bytes old new → Opened t o us u old new
    by (Ok h) is step = opened t o us u h old new after is (checks_of t o us u h old new after is step)
    by (Err fault) is step = absurd (no_check fault (sym (cc step.0)))
