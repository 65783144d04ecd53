-- A unit of a stream, after the units before it.
use Rattle.std.proofs.Common.{◌≡◌, inl, inr, ℕ, ◌+◌, ◌<◌, ◌^◌, List, [], ◌∷◌, ◌++◌, refl, sym, ◌∙◌}
use Rattle.std.proofs.Common.{ap, subst, arith, Option, Some, None, Result, Ok, Err, true, false}
use Rattle.std.specs.Prelude.{is_some}
use Rattle.hevc_spec.specs.Units.{NalUnit}
use Rattle.hevc_spec.specs.UnitHeader.{UnitHeader, unit_header}
use Rattle.hevc_walk.specs.Meanings.{Format, Meaning}
use Rattle.hevc_walk.specs.Walk.{Part, at_unit}
use Rattle.hevc_walk_units.specs.Units.{Standing, unit_part, is_full_at}
use Rattle.hevc_stream.specs.Options.{Options}
use Rattle.hevc_stream.specs.Kept.{Kept}
use Rattle.hevc_stream.specs.Stream.{meaning}
use Rattle.hevc_bumping.specs.declared.frame.Frame.{Frame}
use Rattle.hevc_driver.specs.declared.decode_error.DecodeError.{DecodeError}
use Rattle.hevc_driver.specs.declared.decode_error.DecodeError.TheVariants as errors
use Rattle.hevc_driver.specs.Given.{Given}
use Rattle.hevc_driver.specs.Does.{Does}
use Rattle.hevc_driver.specs.Moments.{opening}
use Rattle.hevc_stateless_laws.specs.Stands.{given_next}
use Rattle.hevc_stateless_laws.proofs.Given.{given_first, given_second}
use Rattle.hevc_driver.specs.Takes.{Opens, asking}
use Rattle.hevc_stateless.specs.declared.state.State.{State}
use Rattle.hevc_stateless.specs.declared.state.State.TheVariants.{Decoding}
use Rattle.hevc_stateless.specs.States.{unit_at, later_meaning, meaning_in, is_awaited}
use Rattle.hevc_stateless.specs.Steps.{Seen, Step, StepsIn}
use Rattle.hevc_stateless.specs.Views.{traces_of}
use Rattle.hevc_stateless_laws.specs.Stands.{state_by, meant, standing_after, StandsAfter}
use Rattle.hevc_stateless_laws.specs.Stands.{kept_after, meant_next, StandsBetween}
use Rattle.hevc_stateless_laws.proofs.Standing.{took, going_by}
use Rattle.hevc_stateless_laws.proofs.Means.{Means, means, later_part}
use Rattle.hevc_stateless_laws.proofs.Opening.{opens, opened}
use Rattle.hevc_stateless_laws.proofs.Again.{first_full, tw, meant_is, took_again, set_is}
use Rattle.hevc_stateless_laws.proofs.Twice.{TwiceBy}
use Rattle.hevc_decoder.specs.Scenes.{Scene, trail_of, with_queue, accepting}
use Rattle.hevc_decoder.specs.Gives.{Delivered, Unmade, DecodesUnit, Gives, is_check_events, GivesWhole}
use Rattle.hevc_decoder.specs.Takes.{DoesAll, TakesUnit}
use Rattle.hevc_decoder.proofs.Doing.{lifts, does_all_nothing}
use Rattle.hevc_decoder.proofs.Giving.{TakesOrStays, part_of, take_once}
use Rattle.hevc_decoder.proofs.Numbers.{opening_number}
use Rattle.hevc_decoder.proofs.Again.{take_on}

-- where a decoder is, whatever waits in its queue
pub stands_with : {B H : Type 0} (o : Options) (us : List NalUnit) (s : Seen B H) (out : List (Frame H))
    → StandsAfter o us (with_queue out s) → StandsAfter o us s
stands_with o us s out x = record {
  goes_on = x.goes_on;
  stands = x.stands;
  state_is = x.state_is;
  kept = x.kept;
  latest = x.latest;
  room = x.room;
  started = x.started;
}

-- a format that is awaited isn't where a decoder is
step_in : {B H T : Type 0} (r : Result T DecodeError) (o : Options) (us : List NalUnit) (u : NalUnit)
    (h : UnitHeader) (old new : Seen B H) → StandsAfter o us old → unit_header u.bytes ≡ Ok h
    → StepsIn r 0 o h u.bytes old new → Step r (given_next 0 o us u) o h u.bytes old new
step_in r o us u h old new after parsed y =
    subst (λ (g : Given). Step r g o h u.bytes old new) (given_first o us u h old after parsed 0)
    (y.taken (ap is_awaited after.state_is ∙ going_by (standing_after (meant o us)).store.accepted))

-- a failed allocation for the outputs stops a unit before it begins
unmade : {B H T : Type 0} (at : ℕ → Given) (r : Result T DecodeError) (k : ℕ) (old new : Scene B H)
    (y : Meaning) (s : Standing) → Unmade r old new → TakesUnit at r k (trail_of old) (trail_of new) y s
unmade {B} {H} {T} at r k old new y s u =
    subst (λ (q : Result T DecodeError). TakesUnit at q k (trail_of old) (trail_of new) y s) (sym u.told)
    (record {
      done = [];
      rest = (unit_part y s).events;
      whole = refl;
      does = does_all_nothing at (trail_of old) (trail_of new) (ap trail_of u.same);
      next = λ f. absurd f;
    })

isnt_check : {T : Type 0} (r : Result T DecodeError) → is_check_events r ≡ false → r ≡ Err errors.CheckEvents → ⊥
isnt_check (Ok v) e is = cc is
isnt_check {T} (Err x) e is = let bad : is_check_events {T = T} (Err errors.CheckEvents) ≡ false =
    sym (ap is_check_events is) ∙ e in cc bad

module _ {B H : Type 0} (at : ℕ → Given) (o : Options) (us : List NalUnit) (u : NalUnit) (h : UnitHeader)
    (k : ℕ) (here : given_next 0 o us u ≡ at k) (old : Scene B H) (after : StandsAfter o us old.seen)
    (empty : old.seen.view.queue ≡ []) (parsed : unit_header u.bytes ≡ Ok h) where
  abbrev S : Standing
  S = standing_after (meant o us)

  abbrev y : Meaning
  y = meaning o (kept_after o us) u.bytes

  abbrev a : Option Format
  a = S.store.accepted

  untimed : (at k).timestamp ≡ 0
  untimed = ap (λ (g : Given). g.timestamp) (sym here)

  -- ---- a call is enough

  module _ (new : Scene B H) where
    step_of : {T : Type 0} (r : Result T DecodeError) (d : Delivered (DecodesUnit o h u.bytes) r k old new)
        → Step r (given_next 0 o us u) o h u.bytes old.seen (with_queue d.out new.seen)
    step_of {T} r d = step_in r o us u h old.seen (with_queue d.out new.seen) after parsed d.calls

    same : Means (meaning_in (state_by a) (unit_at o old.seen.kept h u.bytes)) y S
    same = subst (λ (s : Standing). Means (meaning_in (state_by a) (unit_at o old.seen.kept h u.bytes)) y s)
        after.stands
        (subst (λ (kk : Kept). Means (meaning_in (state_by a) (unit_at o old.seen.kept h u.bytes))
        (meaning o kk u.bytes) old.seen.view.standing) after.kept
        (means o old.seen.kept u.bytes h parsed a old.seen.view.standing
        (ap (λ (s : Standing). s.store.accepted) after.stands) after.started))

    pub given_once : {T : Type 0} (r : Result T DecodeError) → is_check_events r ≡ false
        → S.next.number + 1 < 2 ^ 64 → Gives r k o h u.bytes old new
        → TakesUnit at r k (trail_of old) (trail_of new) y S
    given_once {T} r isnt few (inr z) = unmade at r k old new y S z
    given_once {T} r isnt few (inl d) =
        let step = step_of r d in
        let takes = subst
        (λ (s : Standing). TakesOrStays (at k) r
        (traces_of old.seen.log old.seen.handed old.seen.asked old.seen.view)
        (traces_of new.seen.log new.seen.handed new.seen.asked (with_queue d.out new.seen).view)
        (meaning_in (state_by a) (unit_at o old.seen.kept h u.bytes)) s new.seen.view.standing) after.stands
        (subst (λ (x : State). TakesOrStays (at k) r
        (traces_of old.seen.log old.seen.handed old.seen.asked old.seen.view)
        (traces_of new.seen.log new.seen.handed new.seen.asked (with_queue d.out new.seen).view)
        (meaning_in x (unit_at o old.seen.kept h u.bytes)) old.seen.view.standing new.seen.view.standing)
        after.state_is
        (part_of (at k) r o h u.bytes old.seen (with_queue d.out new.seen)
        (subst (λ (g : Given). Step r g o h u.bytes old.seen (with_queue d.out new.seen)) here step))) in
        take_once at k untimed old new d.out (meaning_in (state_by a) (unit_at o old.seen.kept h u.bytes)) y
        S new.seen.view.standing same empty d.shown r (isnt_check r isnt) few takes

    pub stands_once : {T : Type 0} (v : T) → Gives (Ok v) k o h u.bytes old new → StandsAfter o (us ++ u ∷ []) new.seen
    stands_once {T} v (inr z) = absurd (cc z.told)
    stands_once {T} v (inl d) =
        let step = step_of (Ok v) d in
        stands_with o (us ++ u ∷ []) new.seen d.out
        (took 0 o us u h old.seen (with_queue d.out new.seen) 0 after parsed (record {
          takes = record { part = step.takes.part; state = step.takes.state; latest = step.takes.latest };
          kept = step.kept;
        })).stands

  -- ---- the second call goes on

  module _ {T : Type 0} (mid : Scene B H)
      (d : Delivered {T = T} (DecodesUnit o h u.bytes) (Err errors.CheckEvents) k old mid)
      (emptied : mid.seen.view.queue ≡ []) where
    abbrev q : Part Standing
    q = opening (meant_next o us u) S

    first : Step {T = ℕ} (Err errors.CheckEvents) (given_next 0 o us u) o h u.bytes old.seen (with_queue d.out mid.seen)
    first = let step = step_of mid (Err errors.CheckEvents) d in record {
      takes = record { part = step.takes.part; state = step.takes.state; latest = step.takes.latest };
      kept = step.kept;
    }

    opens_it : Opens (given_next 0 o us u)
        (traces_of old.seen.log old.seen.handed old.seen.asked old.seen.view)
        (traces_of mid.seen.log mid.seen.handed mid.seen.asked (with_queue d.out mid.seen).view)
        (meant_next o us u) S mid.seen.view.standing
    opens_it = opens 0 o us u h old.seen (with_queue d.out mid.seen) after parsed first

    between : StandsBetween o us u (accepting mid).seen
    between = let b = (opened 0 o us u h old.seen (with_queue d.out mid.seen) after parsed first).between in
        record {
          goes_on = b.goes_on;
          negotiates = b.negotiates;
          room = b.room;
          space = b.space;
          stands = b.stands;
          kept = b.kept;
          latest = b.latest;
          started = b.started;
        }

    twice_by : TwiceBy q (later_meaning y) y S
    twice_by = tw o us u h (accepting mid).seen between parsed

    done : DoesAll at (trail_of old) (trail_of mid) (at_unit k q.events)
    done = lifts at k untimed old mid d.out q.events empty d.shown
        (subst (λ (g : Given). Does g
        (asking (meant_next o us u) S (traces_of old.seen.log old.seen.handed old.seen.asked old.seen.view))
        (traces_of mid.seen.log mid.seen.handed mid.seen.asked (with_queue d.out mid.seen).view) q.events)
        here opens_it.completes.does)

    second : {T : Type 0} (new : Scene B H) (r : Result T DecodeError)
        (e : Delivered (DecodesUnit o h u.bytes) r k (accepting mid) new)
        → Step r (at k) o h u.bytes (accepting mid).seen (with_queue e.out new.seen)
    second {T} new r e =
        subst (λ (g : Given). Step r g o h u.bytes (accepting mid).seen (with_queue e.out new.seen))
        (given_second o us u h (accepting mid).seen between parsed
        (meant_is o us u h (accepting mid).seen between parsed)
        (set_is o us u h (accepting mid).seen between parsed) refl 0 ∙ here) (e.calls.taken refl)

    means_again : Means (later_meaning y) y q.next
    means_again = by q.next.store.accepted refl twice_by.accepted
      where
        by : (f : Option Format) → q.next.store.accepted ≡ f → is_some f ≡ true → Means (later_meaning y) y q.next
        by None is some = absurd (cc some)
        by (Some f) is some = later_part f y q.next is

    room : is_full_at y S ≡ false
    room = sym (first_full a y S) ∙ opens_it.room

    module _ (new : Scene B H) (r : Result T DecodeError) where
      takes : (e : Delivered (DecodesUnit o h u.bytes) r k (accepting mid) new)
          → TakesOrStays (at k) r
          (traces_of mid.seen.log mid.seen.handed mid.seen.asked (accepting mid).seen.view)
          (traces_of new.seen.log new.seen.handed new.seen.asked (with_queue e.out new.seen).view)
          (later_meaning y) q.next new.seen.view.standing
      takes e = subst
          (λ (m : Meaning). TakesOrStays (at k) r
          (traces_of mid.seen.log mid.seen.handed mid.seen.asked (accepting mid).seen.view)
          (traces_of new.seen.log new.seen.handed new.seen.asked (with_queue e.out new.seen).view)
          (later_meaning m) q.next new.seen.view.standing) (meant_is o us u h (accepting mid).seen between parsed)
          (subst (λ (s : Standing). TakesOrStays (at k) r
          (traces_of mid.seen.log mid.seen.handed mid.seen.asked (accepting mid).seen.view)
          (traces_of new.seen.log new.seen.handed new.seen.asked (with_queue e.out new.seen).view)
          (meaning_in Decoding (unit_at o mid.seen.kept h u.bytes)) s new.seen.view.standing) between.stands
          (part_of (at k) r o h u.bytes (accepting mid).seen (with_queue e.out new.seen) (second new r e)))

      -- once its format is accepted it opens no other
      no_more : (e : Delivered (DecodesUnit o h u.bytes) r k (accepting mid) new) → r ≡ Err errors.CheckEvents → ⊥
      no_more e is =
          let opens_more =
          subst (λ (s : Result T DecodeError). TakesOrStays (at k) s
          (traces_of mid.seen.log mid.seen.handed mid.seen.asked (accepting mid).seen.view)
          (traces_of new.seen.log new.seen.handed new.seen.asked (with_queue e.out new.seen).view)
          (later_meaning y) q.next new.seen.view.standing) is (takes e) in
          cc (sym twice_by.once ∙ opens_more.negotiates)

      pub given_again : q.next.next.number + 1 < 2 ^ 64 → Gives r k o h u.bytes (accepting mid) new
          → TakesUnit at r k (trail_of old) (trail_of new) y S
      given_again few (inr z) =
          take_on at k (trail_of old) (trail_of mid) (trail_of new) a y q S room between.negotiates twice_by
          means_again done r (unmade at r k (accepting mid) new y q.next z)
      given_again few (inl e) =
          take_on at k (trail_of old) (trail_of mid) (trail_of new) a y q S room between.negotiates twice_by
          means_again done r
          (take_once at k untimed (accepting mid) new e.out
          (later_meaning y) y q.next new.seen.view.standing means_again emptied e.shown r (no_more e) few (takes e))

    pub stands_again : (new : Scene B H) (v : T) → Gives (Ok v) k o h u.bytes (accepting mid) new
        → StandsAfter o (us ++ u ∷ []) new.seen
    stands_again new v (inr z) = absurd (cc z.told)
    stands_again new v (inl e) =
        stands_with o (us ++ u ∷ []) new.seen e.out
        (took_again o us u h (accepting mid).seen between parsed 0 (with_queue e.out new.seen) 0 refl
        (let step = subst
        (λ (g : Given). Step (Ok v) g o h u.bytes (accepting mid).seen (with_queue e.out new.seen))
        (sym here) (second new (Ok v) e) in record {
          takes = record { part = step.takes.part; state = step.takes.state; latest = step.takes.latest };
          kept = step.kept;
        })).stands

  -- ---- a unit as a whole

  pub whole_taken : {T : Type 0} (new : Scene B H) (r : Result T DecodeError) → S.next.number + 1 < 2 ^ 64
      → GivesWhole r k o h u.bytes old new → TakesUnit at r k (trail_of old) (trail_of new) y S
  whole_taken new r few (inl z) = given_once new r z.0 few z.1
  whole_taken new r few (inr z) =
      given_again z.mid z.opens z.emptied new r (let same = opening_number (meant_next o us u) S in
      omega (arith, same, few)) z.again

  pub whole_stands : {T : Type 0} (new : Scene B H) (v : T) → GivesWhole (Ok v) k o h u.bytes old new
      → StandsAfter o (us ++ u ∷ []) new.seen
  whole_stands new v (inl z) = stands_once new v z.1
  whole_stands new v (inr z) = stands_again z.mid z.opens z.emptied new v z.again
