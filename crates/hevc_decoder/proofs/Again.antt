-- A unit whose negotiation was opened, and which is given again: both calls together do what it asks.
use Rattle.std.proofs.Common.{◌≡◌, ℕ, List, ◌++◌, refl, sym, ◌∙◌, ap, subst, append_assoc, Option}
use Rattle.std.proofs.Common.{Some, None, Result, Ok, Err, Bool, true, false, not, ◌&&◌}
use Rattle.hevc_walk.specs.Meanings.{Format, Slice, Meaning, SequenceSet, CodedSlice, EndOfSequence}
use Rattle.hevc_walk.specs.Meanings.{EndOfBitstream, Other, Refused}
use Rattle.hevc_walk.specs.DependentSlices.{whole_slice}
use Rattle.hevc_walk.specs.Walk.{Event, Part, is_accepted, at_unit}
use Rattle.hevc_walk_units.specs.Units.{Standing, begins_picture, unit_part, refusal_at, is_full_at}
use Rattle.hevc_walk_agree.proofs.Joined.{at-append}
use Rattle.hevc_driver.specs.declared.decode_error.DecodeError.{DecodeError}
use Rattle.hevc_driver.specs.declared.decode_error.DecodeError.TheVariants as errors
use Rattle.hevc_driver.specs.Given.{Given}
use Rattle.hevc_driver.specs.Moments.{begins_at, begins_by, negotiates, negotiates_by}
use Rattle.hevc_stateless.specs.States.{later_meaning}
use Rattle.hevc_stateless_laws.specs.Stands.{first_meaning}
use Rattle.hevc_stateless_laws.proofs.Means.{Means}
use Rattle.hevc_stateless_laws.proofs.Twice.{TwiceBy}
use Rattle.hevc_decoder.specs.Scenes.{Trail}
use Rattle.hevc_decoder.specs.Takes.{DoesAll, StopsPlan, RefusesUnit, HaltsUnit, TakesUnit}
use Rattle.hevc_decoder.proofs.Doing.{does_all_then}

left_true : (a b : Bool) → a && b ≡ true → a ≡ true
left_true true b e = refl
left_true false b e = e

begins_first : (o : Option Slice) (s : Standing) → negotiates_by o s ≡ true → begins_by o s ≡ true
begins_first None s e = absurd (cc e)
begins_first (Some w) s e = left_true (begins_picture s.current w) (not (is_accepted w.format s.store.accepted)) e

-- a unit that begins a picture as it is given again did so at first
pub begins_again : (a : Option Format) (y : Meaning) (s n : Standing)
    → negotiates (first_meaning a y) s ≡ true → begins_at (later_meaning y) n ≡ true → begins_at y s ≡ true
begins_again a (SequenceSet f) s n e b = absurd (cc b)
begins_again None (CodedSlice w) s n e b = begins_first (whole_slice s.kept w) s e
begins_again (Some f) (CodedSlice w) s n e b = begins_first (whole_slice s.kept w) s e
begins_again a EndOfSequence s n e b = absurd (cc b)
begins_again a EndOfBitstream s n e b = absurd (cc b)
begins_again a Other s n e b = absurd (cc b)
begins_again a (Refused c) s n e b = absurd (cc b)

module _ {H : Type 0} (at : ℕ → Given) (k : ℕ) (old mid new : Trail H) (a : Option Format) (y : Meaning)
    (q : Part Standing) (s : Standing) (room : is_full_at y s ≡ false)
    (negotiated : negotiates (first_meaning a y) s ≡ true) (tw : TwiceBy q (later_meaning y) y s)
    (m : Means (later_meaning y) y q.next) (done : DoesAll at old mid (at_unit k q.events)) where
  abbrev n : Standing
  n = q.next

  events_are : (unit_part y s).events ≡ q.events ++ (unit_part y n).events
  events_are = ap (λ (p : Part Standing). p.events) tw.part ∙ ap (λ (p : Part Standing). q.events ++ p.events) m.part

  refusal_goes : refusal_at y s ≡ refusal_at y n
  refusal_goes = tw.refusal ∙ m.refusal

  joined : (es : List Event) → DoesAll at mid new (at_unit k es) → DoesAll at old new (at_unit k (q.events ++ es))
  joined es d =
      subst (DoesAll at old new) (sym (at-append k q.events es))
      (does_all_then at old mid new (at_unit k q.events) (at_unit k es) done d)

  stops_on : (F : Type 0) → StopsPlan at F k mid new (unit_part y n).events
      → StopsPlan at F k old new (unit_part y s).events
  stops_on F w = record {
    done = q.events ++ w.done;
    rest = w.rest;
    whole = events_are ∙ ap (λ es. q.events ++ es) w.whole ∙ sym (append_assoc q.events w.done w.rest);
    does = joined w.done w.does;
    next = w.next;
  }

  all_on : DoesAll at mid new (at_unit k (unit_part y n).events) → DoesAll at old new (at_unit k (unit_part y s).events)
  all_on d = subst (λ es. DoesAll at old new (at_unit k es)) (sym events_are) (joined (unit_part y n).events d)

  refuses_on : (e : DecodeError) → RefusesUnit at e k mid new y n → RefusesUnit at e k old new y s
  refuses_on e w = record {
    room = room;
    cause = w.cause;
    refused = refusal_goes ∙ w.refused;
    named = w.named;
    does = all_on w.does;
  }

  halts_on : (frames : ℕ) → HaltsUnit at frames k mid new y n → HaltsUnit at frames k old new y s
  halts_on frames w = record {
    told = w.told;
    begins = begins_again a y s n negotiated (m.begins ∙ w.begins);
    stops = stops_on ⊥ w.stops;
  }

  pub take_on : {T : Type 0} (r : Result T DecodeError) → TakesUnit at r k mid new y n → TakesUnit at r k old new y s
  take_on (Ok v) w = record { goes_on = refusal_goes ∙ w.goes_on; room = room; does = all_on w.does }
  take_on (Err errors.Backend) w = stops_on (Unit {0}) w
  take_on (Err errors.NoMemory) w = stops_on ⊥ w
  take_on (Err errors.DpbFull) w = absurd (cc (sym w.full ∙ sym m.full ∙ tw.full))
  take_on (Err (errors.NotEnoughOutputBuffers frames)) w = halts_on frames w
  take_on (Err errors.NoNal) w = w
  take_on (Err errors.CheckEvents) w = w
  take_on (Err errors.PictureNumbersSpent) w = w
  take_on (Err e) w = refuses_on e w
