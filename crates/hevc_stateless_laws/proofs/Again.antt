-- A unit that opened a negotiation, and is given again.
use Rattle.std.proofs.Common.{◌≡◌, ℕ, List, [], ◌∷◌, ◌++◌, map, length, refl, sym, ◌∙◌, ap, subst}
use Rattle.std.proofs.Common.{Option, Some, None, Result, Ok, Err, Bool, true, false, ◌||◌}
use Rattle.std.specs.Prelude.{is_some}
use Rattle.std.specs.List.{flat_map}
use Rattle.std.proofs.lemmas.List.{append-nil}
use Rattle.std.proofs.lemmas.Grind.{flat_map-append}
use Rattle.hevc_spec.specs.Units.{NalUnit}
use Rattle.hevc_spec.specs.UnitHeader.{UnitHeader, HeaderFault, unit_header}
use Rattle.hevc_walk.specs.Meanings.{Format, Meaning, SequenceSet, CodedSlice, EndOfSequence}
use Rattle.hevc_walk.specs.Meanings.{EndOfBitstream, Other, Refused}
use Rattle.hevc_walk.specs.Pictures.{stream}
use Rattle.hevc_walk.specs.Walk.{Part}
use Rattle.hevc_walk.specs.Refusals.{Cause, refusal, first_refusal, stop}
use Rattle.hevc_walk.specs.Results.{calls, calls_of_unit}
use Rattle.hevc_walk_units.specs.Units.{Standing, unit_part}
use Rattle.std.proofs.Common.{cond}
use Rattle.hevc_walk.specs.Walk.{earlier_of}
use Rattle.hevc_walk_units.specs.Units.{is_full_at}
use Rattle.hevc_walk_agree.specs.Standings.{full_by}
use Rattle.hevc_walk_agree.proofs.Moment.{moment}
use Rattle.hevc_walk_agree.proofs.Ends.{stop-last}
use Rattle.hevc_walk_agree.proofs.Joined.{refusal-same}
use Rattle.hevc_walk_agree.proofs.Cuts.{calls-at}
use Rattle.hevc_stream.specs.Options.{Options}
use Rattle.hevc_stream.specs.Kept.{Kept, none_kept}
use Rattle.hevc_stream.specs.Stream.{meaning, kept_behind}
use Rattle.hevc_bumping.specs.declared.frame.Frame.{Frame}
use Rattle.hevc_bumping.specs.Frames.{frame_output}
use Rattle.hevc_driver.specs.Does.{call_in}
use Rattle.hevc_driver.specs.Moments.{negotiates, opening, step_part}
use Rattle.hevc_driver.specs.Takes.{Goes}
use Rattle.hevc_stateless.specs.declared.state.State.{State}
use Rattle.hevc_stateless.specs.declared.state.State.TheVariants.{Decoding}
use Rattle.hevc_stateless.specs.States.{unit_at, state_behind, is_sequence_set, later_meaning, meaning_in, is_awaited}
use Rattle.hevc_stateless.specs.Steps.{Seen, Step, StepsIn, StepsBehind, TakesFirst}
use Rattle.hevc_stateless.specs.Views.{traces_of}
use Rattle.hevc_stateless.specs.Segments.{own_set}
use Rattle.hevc_stateless_laws.specs.Stands.{state_by, meant, standing_after, asked, kept_after}
use Rattle.hevc_stateless_laws.specs.Stands.{first_meaning, meant_next, StandsBetween, TookAgain}
use Rattle.hevc_stateless_laws.proofs.Accepting.{stays_accepted}
use Rattle.hevc_driver.specs.Given.{Given}
use Rattle.hevc_backend.specs.Trait.{logged}
use Rattle.hevc_stateless_laws.specs.Stands.{given_next}
use Rattle.hevc_stateless_laws.proofs.Given.{handed_calls, given_second, latest_second}
use Rattle.hevc_stateless_laws.proofs.Keeping.{meant_last, kept_last, length_meant, kept_has}
use Rattle.hevc_stateless_laws.proofs.Keeping.{is_coded, none_coded, IsReadAgain, read_again}
use Rattle.hevc_stateless_laws.proofs.Standing.{calls_are, is_decoding, or_true}
use Rattle.hevc_stateless_laws.proofs.Means.{later_is}
use Rattle.hevc_stateless_laws.proofs.Twice.{TwiceBy, twice, quiet}

nothing_out : {H : Type 0} (out : List (Frame H)) → map frame_output out ≡ [] → out ≡ []
nothing_out [] e = refl
nothing_out (f ∷ fs) e = absurd (cc e)

not_coded : (a : Option Format) (m : Meaning) (s : Standing) → negotiates (first_meaning a m) s ≡ true
    → is_coded m ≡ false → is_sequence_set m ≡ true
not_coded None (SequenceSet f) s e coded = refl
not_coded None (CodedSlice w) s e coded = absurd (cc coded)
not_coded None EndOfSequence s e coded = absurd (cc e)
not_coded None EndOfBitstream s e coded = absurd (cc e)
not_coded None Other s e coded = absurd (cc e)
not_coded None (Refused c) s e coded = absurd (cc e)
not_coded (Some f) (SequenceSet g) s e coded = absurd (cc e)
not_coded (Some f) (CodedSlice w) s e coded = absurd (cc coded)
not_coded (Some f) EndOfSequence s e coded = absurd (cc e)
not_coded (Some f) EndOfBitstream s e coded = absurd (cc e)
not_coded (Some f) Other s e coded = absurd (cc e)
not_coded (Some f) (Refused c) s e coded = absurd (cc e)

pub first_full : (a : Option Format) (m : Meaning) (s : Standing) → is_full_at (first_meaning a m) s ≡ is_full_at m s
first_full None m s = refl
first_full (Some f) (SequenceSet g) s = refl
first_full (Some f) (CodedSlice w) s = refl
first_full (Some f) EndOfSequence s = refl
first_full (Some f) EndOfBitstream s = refl
first_full (Some f) Other s = refl
first_full (Some f) (Refused c) s = refl

-- the unit between both calls
module _ {B H : Type 0} (o : Options) (us : List NalUnit) (u : NalUnit) (h : UnitHeader) (old : Seen B H)
    (between : StandsBetween o us u old) (parsed : unit_header u.bytes ≡ Ok h) where
  abbrev ms : List Meaning
  ms = meant o us

  abbrev S : Standing
  S = standing_after ms

  abbrev a : Option Format
  a = S.store.accepted

  abbrev k : Kept
  k = kept_after o us

  abbrev y : Meaning
  y = meaning o k u.bytes

  abbrev n : Standing
  n = (opening (meant_next o us u) S).next

  pub tw : TwiceBy (opening (meant_next o us u) S) (later_meaning y) y S
  tw = twice a y S refl between.negotiates

  -- where none was kept it is a sequence set
  has_set : (f : Option Format) → a ≡ f → is_sequence_set y ≡ false → k.has_sequence_set ≡ true
  has_set None is isnt = let none : k.has_sequence_set ≡ false = sym between.started ∙ ap is_some is in
      absurd (cc (sym isnt ∙ not_coded a y S between.negotiates (none_coded o k u.bytes h parsed none)))
  has_set (Some f) is isnt = sym between.started ∙ ap is_some is

  pub again : IsReadAgain o k u.bytes
  again = read_again o k u.bytes h parsed (is_sequence_set y) refl (λ isnt. has_set a refl isnt)

  pub meant_is : (unit_at o old.kept h u.bytes).meaning ≡ y
  meant_is = ap (λ (kk : Kept). meaning o (record kk { has_sequence_set = true }) u.bytes) between.kept ∙ again.means

  pub set_is : own_set o old.kept u.bytes ≡ own_set o k u.bytes
  set_is = ap (λ (kk : Kept). own_set o kk u.bytes) between.kept ∙ again.set

  module _ (t : ℕ) (new : Seen B H) (v : ℕ) (decoding : old.view.state ≡ Decoding)
      (step : Step (Ok v) (given_next t o us u) o h u.bytes old new) where
    goes : Goes (given_next t o us u) (traces_of old.log old.handed old.asked old.view)
        (traces_of new.log new.handed new.asked new.view) (later_meaning y) n new.view.standing
    goes = subst
        (λ (m : Meaning). Goes (given_next t o us u) (traces_of old.log old.handed old.asked old.view)
        (traces_of new.log new.handed new.asked new.view) (later_meaning m) n new.view.standing) meant_is
        (subst (λ (s : Standing). Goes (given_next t o us u)
        (traces_of old.log old.handed old.asked old.view) (traces_of new.log new.handed new.asked new.view)
        (meaning_in Decoding (unit_at o old.kept h u.bytes)) s new.view.standing) between.stands
        (subst (λ (x : State). Goes (given_next t o us u) (traces_of old.log old.handed old.asked old.view)
        (traces_of new.log new.handed new.asked new.view)
        (meaning_in x (unit_at o old.kept h u.bytes)) old.view.standing new.view.standing) decoding step.takes.part))

    fine : refusal (stream ms) y ≡ None
    fine = sym (refusal-same (stream ms) y) ∙ tw.refusal ∙ goes.goes_on

    next : new.view.standing ≡ standing_after (ms ++ y ∷ [])
    next = goes.completes.next ∙ ap (λ (q : Part Standing). q.next) (sym tw.part) ∙ (moment ms y fine).next

    later_stays : (m : Meaning) (s : Standing) → is_some s.store.accepted ≡ true
        → is_some (step_part (later_meaning m) s).next.store.accepted ≡ true
    later_stays m s some = ap (λ (q : Part Standing). is_some q.next.store.accepted) (later_is m s some)
        ∙ stays_accepted m s some

    some : is_some new.view.standing.store.accepted ≡ true
    some = ap (λ (s : Standing). is_some s.store.accepted) goes.completes.next ∙ later_stays y n tw.accepted

    next_list : new.view.standing ≡ standing_after (meant o (us ++ u ∷ []))
    next_list = next ∙ ap standing_after (sym (meant_last o none_kept us u))

    has_now : new.kept.has_sequence_set ≡ true
    has_now = ap (λ (kk : Kept). kk.has_sequence_set) step.kept ∙ kept_has o old.kept u.bytes
        ∙ ap (λ (b : Bool). is_sequence_set (meaning o old.kept u.bytes) || b)
        (ap (λ (kk : Kept). kk.has_sequence_set) between.kept ∙ again.has)
        ∙ or_true (is_sequence_set (meaning o old.kept u.bytes))

    full_now : is_full_at y S ≡ false
    full_now = sym (first_full a y S) ∙ between.space

    room_now : full_by (stream (meant o (us ++ u ∷ []))) ≡ None
    room_now = ap (λ (l : List Meaning). full_by (stream l)) (meant_last o none_kept us u)
        ∙ (moment ms y fine).full
        ∙ ap (λ (f : Option ℕ). earlier_of f (cond (is_full_at y S) (Some (length ms)) None)) between.room
        ∙ ap (λ (b : Bool). cond b (Some (length ms)) None) full_now

    here : {A : Type 0} (P : ℕ → List Meaning → A)
        → P (length us) (meant o (us ++ u ∷ [])) ≡ P (length ms) (ms ++ y ∷ [])
    here P = ap (λ (i : ℕ). P i (meant o (us ++ u ∷ []))) (sym (length_meant o none_kept us))
        ∙ ap (P (length ms)) (meant_last o none_kept us u)

    pub took_again : TookAgain t o us u old new
    took_again = record {
      stands = record {
        goes_on = ap stop (meant_last o none_kept us u) ∙ stop-last ms y between.goes_on
            ∙ ap (λ (c : Option Cause). first_refusal (length ms) c None) fine;
        stands = next_list;
        state_is = step.takes.state
            ∙ ap (λ (x : State). state_behind x (unit_at o old.kept h u.bytes)) decoding
            ∙ sym (is_decoding new.view.standing.store.accepted some)
            ∙ ap (λ (s : Standing). state_by s.store.accepted) next_list;
        room = room_now;
        kept = step.kept ∙ ap (λ (kk : Kept). kept_behind o kk u.bytes) between.kept ∙ again.kept
            ∙ sym (kept_last o none_kept us u);
        latest = step.takes.latest ∙ latest_second o us u h old between parsed meant_is set_is decoding;
        started = ap (λ (s : Standing). is_some s.store.accepted) (sym next_list) ∙ some ∙ sym has_now;
      };
      later = flat_map call_in (step_part (later_meaning y) n).events;
      logs = record {
        made = goes.completes.does.calls;
        log = goes.completes.does.log;
        calls_are = goes.completes.does.made;
        timed = goes.completes.does.timed;
        handed = goes.completes.does.handed
            ∙ ap (logged old.handed) (handed_calls (given_next t o us u) (step_part (later_meaning y) n).events);
      };
      both = here (λ i l. map asked (calls_of_unit i (calls l)))
          ∙ ap (map asked) (calls-at ms y [] between.goes_on) ∙ calls_are (length ms) (unit_part y S).events
          ∙ ap (λ (q : Part Standing). flat_map call_in q.events) tw.part
          ∙ flat_map-append call_in (opening (meant_next o us u) S).events (step_part (later_meaning y) n).events;
      queue = goes.completes.does.queue ∙ ap (λ (l : List (Frame H)). old.view.queue ++ l)
          (nothing_out goes.completes.does.out (goes.completes.does.shown
          ∙ quiet a y S refl between.negotiates)) ∙ append-nil old.view.queue;
    }

goes_of : {B H : Type 0} (v t : ℕ) (o : Options) (us : List NalUnit) (u : NalUnit) (h : UnitHeader)
    (old new : Seen B H) → StandsBetween o us u old → unit_header u.bytes ≡ Ok h → old.view.state ≡ Decoding
    → StepsIn (Ok v) t o h u.bytes old new → Step (Ok v) (given_next t o us u) o h u.bytes old new
goes_of v t o us u h old new between parsed decoding y =
    subst (λ (g : Given). Step (Ok v) g o h u.bytes old new)
    (given_second o us u h old between parsed (meant_is o us u h old between parsed)
    (set_is o us u h old between parsed) decoding t) (y.taken (ap is_awaited decoding))

pub took_first_again : {B H : Type 0} (t : ℕ) (o : Options) (us others : List NalUnit) (u : NalUnit)
    (old new : Seen B H) (v : ℕ) → StandsBetween o us u old → old.view.state ≡ Decoding
    → TakesFirst (u ∷ others) (Ok v) t o old new → TookAgain t o us u old new
took_first_again t o us others u old new v between decoding takes = by (unit_header u.bytes) refl takes.0
  where
    by : (r : Result UnitHeader HeaderFault) → unit_header u.bytes ≡ r
        → StepsBehind r (Ok v) t o u.bytes old new → TookAgain t o us u old new
    by (Ok h) is step =
        took_again o us u h old between is t new v decoding (goes_of v t o us u h old new between is decoding step)
    by (Err fault) is step = absurd (cc step.0)
