-- A unit that is refused.
use Rattle.std.proofs.Common.{◌≡◌, ℕ, List, [], ◌∷◌, ◌++◌, map, length, refl, sym, ◌∙◌, ap, subst}
use Rattle.std.proofs.Common.{Bool, true, false, ◌+◌, Option, Some, Result, Ok, Err}
use Rattle.hevc_spec.specs.Units.{NalUnit}
use Rattle.hevc_spec.specs.UnitHeader as headers
use Rattle.hevc_spec.specs.UnitHeader.{UnitHeader, HeaderFault, unit_header}
use Rattle.hevc_walk.specs.Meanings.{Format, Meaning, Refused}
use Rattle.hevc_walk.specs.Pictures.{stream}
use Rattle.hevc_walk.specs.Walk.{Part}
use Rattle.hevc_walk.specs.Refusals.{Cause, UnitRefused, DpbFull, refusal}
use Rattle.hevc_walk.specs.Results.{verdict, full_or, calls, outputs, calls_of_unit, outputs_of_unit}
use Rattle.hevc_walk_units.specs.Units.{Standing, unit_part, refusal_at, is_full_at, verdict_from}
use Rattle.hevc_walk_units.specs.Units.{refused_at, full_or_cause}
use Rattle.hevc_walk_agree.proofs.Joined.{refusal-same}
use Rattle.hevc_walk_agree.proofs.Cuts.{calls-at, outputs-at, verdict-cut}
use Rattle.hevc_stream.specs.Options.{Options}
use Rattle.hevc_stream.specs.Kept.{Kept, none_kept}
use Rattle.hevc_stream.specs.Contents.{content, header_cause}
use Rattle.hevc_stream.specs.Stream.{meaning, meanings_behind, kept_behind}
use Rattle.hevc_driver.specs.declared.decode_error.DecodeError.{DecodeError}
use Rattle.hevc_driver.specs.declared.decode_error.DecodeError.TheVariants as errors
use Rattle.hevc_driver.specs.Errors.{cause_error, error_of}
use Rattle.hevc_driver.specs.Does.{Does}
use Rattle.hevc_driver.specs.Takes as takes
use Rattle.hevc_driver.specs.Takes.{asking}
use Rattle.hevc_records.specs.SliceHeader.{PlainSliceSegmentHeader}
use Rattle.hevc_stateless.specs.Segments.{own_header}
use Rattle.hevc_driver.proofs.Doing.{does_nothing, keeps_all}
use Rattle.hevc_stateless.specs.declared.state.State.{State}
use Rattle.hevc_stateless.specs.States.{unit_at, meaning_in, state_behind, is_awaited}
use Rattle.hevc_stateless.specs.Steps.{Seen, Step, TakesIn, StepsIn, StepsBehind, TakesFirst}
use Rattle.hevc_stateless.specs.Views.{Moment, moment_of, traces_of}
use Rattle.hevc_stateless_laws.specs.Stands.{state_by, meant, standing_after, StandsAfter, asked}
use Rattle.hevc_stateless_laws.specs.Stands.{frame_at, kept_after, IsRefusal, RefusedUnit}
use Rattle.std.specs.List.{flat_map}
use Rattle.hevc_backend.specs.Trait.{logged}
use Rattle.hevc_driver.specs.Given.{Given, handed_by}
use Rattle.hevc_driver.specs.Does.{call_in}
use Rattle.hevc_stateless_laws.specs.Stands.{given_next}
use Rattle.hevc_stateless_laws.proofs.Given.{handed_calls, given_first}
use Rattle.hevc_stateless_laws.proofs.Keeping.{meant_last, meant_behind, length_meant}
use Rattle.hevc_stateless_laws.proofs.Standing.{calls_are, outputs_are, going_by}
use Rattle.hevc_stateless_laws.proofs.Means.{Means, means}

-- where a unit is refused, that is the answer to the stream
answers_at : {B H : Type 0} {seen : Seen B H} (o : Options) (us : List NalUnit) (u : NalUnit)
    (back : List NalUnit) (after : StandsAfter o us seen) (r : Option Cause) (cause : Cause) → r ≡ Some cause
    → r ≡ full_or_cause (is_full_at (meaning o (kept_after o us) u.bytes) (standing_after (meant o us)))
    (refusal_at (meaning o (kept_after o us) u.bytes) (standing_after (meant o us)))
    → verdict (meant o (us ++ u ∷ back)) ≡ Err (record { unit = length us; cause = cause })
answers_at o us u back after r cause is at =
    let ms = meant o us in
    let S = standing_after ms in
    let y = meaning o (kept_after o us) u.bytes in
    let ys = meanings_behind o (kept_behind o (kept_after o us) u.bytes) back in
    ap verdict (meant_behind o none_kept us (u ∷ back))
    ∙ verdict-cut ms (y ∷ ys) after.goes_on
    ∙ ap (λ (f : Option ℕ). full_or f (verdict_from S (length ms) (y ∷ ys))) after.room
    ∙ ap (λ (c : Option Cause). refused_at (length ms) c
    (verdict_from (unit_part y S).next (length ms + 1) ys)) (sym at ∙ is)
    ∙ ap (λ (n : ℕ). Err (record { unit = n; cause = cause })) (length_meant o none_kept us)

module _ {B H : Type 0} (e : DecodeError) (t : ℕ) (o : Options) (us : List NalUnit) (u : NalUnit)
    (old new : Seen B H) (after : StandsAfter o us old) where
  abbrev ms : List Meaning
  ms = meant o us

  abbrev S : Standing
  S = standing_after ms

  abbrev y : Meaning
  y = meaning o (kept_after o us) u.bytes

  here : {A : Type 0} (P : ℕ → List Meaning → A) → P (length us) (meant o (us ++ u ∷ [])) ≡ P (length ms) (ms ++ y ∷ [])
  here P = ap (λ (n : ℕ). P n (meant o (us ++ u ∷ []))) (sym (length_meant o none_kept us))
      ∙ ap (P (length ms)) (meant_last o none_kept us u)

  asked_is : flat_map call_in (unit_part y S).events ≡ map asked
      (calls_of_unit (length us) (calls (meant o (us ++ u ∷ []))))
  asked_is = sym (calls_are (length ms) (unit_part y S).events)
      ∙ sym (ap (map asked) (calls-at ms y [] after.goes_on))
      ∙ sym (here (λ n l. map asked (calls_of_unit n (calls l))))

  -- what the unit asks was done, up to its refusal
  refused_unit : (n : Option ℕ) (cause : Cause) → refusal (stream ms) y ≡ Some cause
      → is_full_at y S ≡ false → error_of cause ≡ e
      → Does (given_next t o us u) (traces_of old.log old.handed n old.view)
      (traces_of new.log new.handed new.asked new.view) (unit_part y S).events → RefusedUnit e t o us u old new
  refused_unit n cause refused full named does = record {
    cause = cause;
    refused = refused;
    named = named;
    verdict = λ back. answers_at o us u back after (full_or_cause (is_full_at y S) (refusal_at y S)) cause
        (ap (λ (b : Bool). full_or_cause b (refusal_at y S)) full ∙ refusal-same (stream ms) y ∙ refused) refl;
    calls = record {
      made = does.calls;
      log = does.log;
      calls_are = does.made ∙ asked_is;
      timed = does.timed;
      handed = does.handed
          ∙ ap (logged old.handed) (handed_calls (given_next t o us u) (unit_part y S).events
          ∙ ap (flat_map (handed_by (given_next t o us u))) asked_is);
    };
    outputs = record {
      out = does.out;
      queue = does.queue;
      outputs_are = ap (λ (n : ℕ). map (frame_at n) does.out) (sym (length_meant o none_kept us))
          ∙ outputs_are (length ms) (unit_part y S).events does.out does.shown
          ∙ sym (outputs-at ms y [] after.goes_on) ∙ sym (here (λ n l. outputs_of_unit n (outputs l)));
    };
  }

  -- its header is refused
  header_refused : (fault : HeaderFault) → unit_header u.bytes ≡ Err fault
      → e ≡ cause_error (header_cause fault) → new ≡ old → RefusedUnit e t o us u old new
  unfolding meaning content
  header_refused fault parsed is same =
      refused_unit old.asked (UnitRefused (header_cause fault)) (sym (refusal-same (stream ms) y)
      ∙ ap (λ (m : Meaning). refusal_at m S) means_it) (ap (λ (m : Meaning). is_full_at m S) means_it) (sym is)
      (subst (λ (m : Meaning). Does (given_next t o us u) (traces_of old.log old.handed old.asked old.view)
      (traces_of new.log new.handed new.asked new.view) (unit_part m S).events) (sym means_it)
      (does_nothing (given_next t o us u) (traces_of old.log old.handed old.asked old.view)
      (traces_of new.log new.handed new.asked new.view) (ap (λ (s : Seen B H). s.log) same)
      (ap (λ (s : Seen B H). s.handed) same) (ap (λ (s : Seen B H). s.asked) same)
      (ap (λ (s : Seen B H). s.view.queue) same)
      (keeps_all old.view.tickets new.view.tickets (ap (λ (s : Seen B H). s.view.tickets) same))))
    where
      means_it : y ≡ Refused (header_cause fault)
      means_it = rw parsed refl

  module _ (h : UnitHeader) (parsed : unit_header u.bytes ≡ Ok h) where
    abbrev a : Option Format
    a = S.store.accepted

    abbrev x : Meaning
    x = meaning_in (state_by a) (unit_at o old.kept h u.bytes)

    same : Means x y old.view.standing
    same = subst (λ (k : Kept). Means x (meaning o k u.bytes) old.view.standing) after.kept
        (means o old.kept u.bytes h parsed a old.view.standing
        (ap (λ (s : Standing). s.store.accepted) after.stands) after.started)

    read_refused : takes.Refuses e (given_next t o us u) (traces_of old.log old.handed old.asked old.view)
        (traces_of new.log new.handed new.asked new.view) x old.view.standing new.view.standing
        → RefusedUnit e t o us u old new
    read_refused r =
        refused_unit (asking x old.view.standing (traces_of old.log old.handed old.asked old.view)).asked
        r.cause (sym (refusal-same (stream ms) y) ∙ ap (refusal_at y) (sym after.stands) ∙ sym same.refusal
        ∙ r.refused) (ap (is_full_at y) (sym after.stands) ∙ sym same.full ∙ r.room) r.named
        (subst (λ (q : Part Standing). Does (given_next t o us u)
        (asking x old.view.standing (traces_of old.log old.handed old.asked old.view))
        (traces_of new.log new.handed new.asked new.view) q.events) (same.part ∙ ap (unit_part y) after.stands) r.does)

-- ---- by the error

refuses_of : {H : Type 0} (e : DecodeError) (t : Given) (u : Meaning) (own : Option PlainSliceSegmentHeader)
    (behind : State) (old new : Moment H) → IsRefusal e
    → TakesIn {H = H} {T = ℕ} (Err e) t u own behind old new
    → takes.Refuses e t old.traces new.traces u old.standing new.standing
refuses_of errors.TruncatedNalu t u own behind old new is y = y.part
refuses_of (errors.InvalidNaluType n) t u own behind old new is y = y.part
refuses_of errors.OutOfBits t u own behind old new is y = y.part
refuses_of (errors.OutOfRange table row) t u own behind old new is y = y.part
refuses_of (errors.MissingPps id) t u own behind old new is y = y.part
refuses_of errors.NoIndependentSlice t u own behind old new is y = y.part
refuses_of (errors.ChangedMidPicture accepted named) t u own behind old new is y = y.part
refuses_of errors.PocOutOfRange t u own behind old new is y = y.part
refuses_of errors.NoNal t u own behind old new is y = absurd is
refuses_of errors.DpbFull t u own behind old new is y = absurd is
refuses_of (errors.NotEnoughOutputBuffers n) t u own behind old new is y = absurd is
refuses_of errors.CheckEvents t u own behind old new is y = absurd is
refuses_of errors.PictureNumbersSpent t u own behind old new is y = absurd is
refuses_of errors.Backend t u own behind old new is y = absurd is
refuses_of errors.NoMemory t u own behind old new is y = absurd is

step_of : {B H : Type 0} (e : DecodeError) (t : ℕ) (o : Options) (us : List NalUnit) (u : NalUnit)
    (h : UnitHeader) (old new : Seen B H) → StandsAfter o us old → unit_header u.bytes ≡ Ok h
    → StepsIn {T = ℕ} (Err e) t o h u.bytes old new → Step {T = ℕ} (Err e) (given_next t o us u) o h u.bytes old new
step_of e t o us u h old new after parsed y =
    subst (λ (g : Given). Step {T = ℕ} (Err e) g o h u.bytes old new)
    (given_first o us u h old after parsed t)
    (y.taken (ap is_awaited after.state_is ∙ going_by (standing_after (meant o us)).store.accepted))

pub refused_first : {B H : Type 0} (e : DecodeError) (t : ℕ) (o : Options) (us others : List NalUnit)
    (u : NalUnit) (old new : Seen B H) → IsRefusal e → StandsAfter o us old
    → TakesFirst (u ∷ others) (Err e) t o old new → RefusedUnit e t o us u old new
refused_first {B} {H} e t o us others u old new is after first = by (unit_header u.bytes) refl first.0
  where
    by : (r : Result UnitHeader HeaderFault) → unit_header u.bytes ≡ r
        → StepsBehind {T = ℕ} r (Err e) t o u.bytes old new → RefusedUnit e t o us u old new
    by (Ok h) parsed step =
        let s = step_of e t o us u h old new after parsed step in
        read_refused e t o us u old new after h parsed
        (subst (λ (x : State). takes.Refuses e (given_next t o us u)
        (traces_of old.log old.handed old.asked old.view) (traces_of new.log new.handed new.asked new.view)
        (meaning_in x (unit_at o old.kept h u.bytes)) old.view.standing new.view.standing) after.state_is
        (refuses_of e (given_next t o us u) (meaning_in old.view.state (unit_at o old.kept h u.bytes))
        (own_header o old.kept u.bytes) (state_behind old.view.state (unit_at o old.kept h u.bytes))
        (moment_of old.log old.handed old.asked old.view) (moment_of new.log new.handed new.asked new.view) is s.takes))
    by (Err fault) parsed step = header_refused e t o us u old new after fault parsed (cc step.0) step.1

-- ---- a full store

pub full_first : {B H : Type 0} (t : ℕ) (o : Options) (us others back : List NalUnit) (u : NalUnit)
    (old new : Seen B H) → StandsAfter o us old → TakesFirst (u ∷ others) (Err errors.DpbFull) t o old new
    → verdict (meant o (us ++ u ∷ back)) ≡ Err (record { unit = length us; cause = DpbFull })
full_first {B} {H} t o us others back u old new after first = by (unit_header u.bytes) refl first.0
  where
    no_header : (fault : HeaderFault) → cause_error (header_cause fault) ≡ errors.DpbFull → ⊥
    no_header headers.truncated is = cc is
    no_header (headers.unspecified_type n) is = cc is
    no_header headers.temporal_id_zero is = cc is

    by : (r : Result UnitHeader HeaderFault) → unit_header u.bytes ≡ r
        → StepsBehind {T = ℕ} r (Err errors.DpbFull) t o u.bytes old new
        → verdict (meant o (us ++ u ∷ back)) ≡ Err (record { unit = length us; cause = DpbFull })
    by (Ok h) parsed step =
        let s = step_of errors.DpbFull t o us u h old new after parsed step in
        let m = same errors.DpbFull t o us u old new after h parsed in
        let y = meaning o (kept_after o us) u.bytes in
        let S = standing_after (meant o us) in
        let full : is_full_at y S ≡ true = ap (is_full_at y) (sym after.stands) ∙ sym m.full
        ∙ ap (λ (x : State). is_full_at (meaning_in x (unit_at o old.kept h u.bytes)) old.view.standing)
        (sym after.state_is) ∙ s.takes.part.0 in
        answers_at o us u back after (full_or_cause (is_full_at y S) (refusal_at y S)) DpbFull
        (ap (λ (b : Bool). full_or_cause b (refusal_at y S)) full) refl
    by (Err fault) parsed step = absurd (no_header fault (sym (cc step.0)))
