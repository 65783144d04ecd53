-- The end of a stream.
use Rattle.std.proofs.Common.{◌≡◌, ℕ, List, [], ◌++◌, map, length, sym, ◌∙◌, ap, subst, zero-add}
use Rattle.std.proofs.Common.{Option, None, Ok, Bool, false}
use Rattle.std.specs.Prelude.{nat_eq}
use Rattle.std.specs.List.{flat_map}
use Rattle.std.proofs.lemmas.List.{append-nil}
use Rattle.std.proofs.lemmas.List.Elements.{filter-append}
use Rattle.hevc_spec.specs.Units.{NalUnit}
use Rattle.hevc_walk.specs.Meanings.{Meaning}
use Rattle.hevc_walk.specs.Pictures.{nothing_yet, stream}
use Rattle.hevc_walk.specs.Walk.{at_unit}
use Rattle.hevc_walk.specs.Refusals.{stop}
use Rattle.hevc_walk.specs.Results.{verdict, full_or, events, calls, outputs, calls_in, outputs_in}
use Rattle.hevc_walk.specs.Results.{calls_of_unit, outputs_of_unit, walk_events}
use Rattle.hevc_walk_units.specs.Units.{Standing, is_full_now, closing_part, verdict_from, refused_at, full_or_cause}
use Rattle.hevc_walk_agree.specs.Standings.{standing, full_by}
use Rattle.hevc_walk_agree.proofs.Cuts.{AllBelow, stream-below, events-cut, verdict-cut, of_unit}
use Rattle.hevc_walk_agree.proofs.Cuts.{of_unit-below, of_unit-at, calls_of_unit-in}
use Rattle.hevc_walk_agree.proofs.Cuts.{outputs_of_unit-in}
use Rattle.hevc_stream.specs.Options.{Options}
use Rattle.hevc_stream.specs.Kept.{none_kept}
use Rattle.hevc_backend.specs.Trait.{logged}
use Rattle.hevc_driver.specs.Given.{Given, handed_by}
use Rattle.hevc_stateless_laws.proofs.Given.{handed_calls}
use Rattle.hevc_driver.specs.Does.{call_in, output_in}
use Rattle.hevc_stateless.specs.Flushes.{Ends}
use Rattle.hevc_stateless.specs.Steps.{Seen}
use Rattle.hevc_stateless.specs.Views.{traces_of}
use Rattle.hevc_stateless_laws.specs.Stands.{meant, standing_after, StandsAfter, asked, frame_at, Ended}
use Rattle.hevc_stateless_laws.proofs.Keeping.{length_meant}
use Rattle.hevc_stateless_laws.proofs.Standing.{calls_are, outputs_are}

module _ (ms : List Meaning) (none : stop ms ≡ None) where
  abbrev k : ℕ
  k = length ms

  abbrev S : Standing
  S = standing (stream ms)

  end_events : of_unit k (events ms) ≡ at_unit k (closing_part S).events
  end_events =
      let first : AllBelow k (walk_events (stream ms)) =
      subst (λ (n : ℕ). AllBelow n (walk_events (stream ms))) (zero-add k) (stream-below 0 nothing_yet ms none tt) in
      ap (λ (l : List Meaning). of_unit k (events l)) (sym (append-nil ms))
      ∙ ap (of_unit k) (events-cut ms [] none)
      ∙ filter-append (λ e. nat_eq e.0 k) (walk_events (stream ms)) (at_unit k (closing_part S).events)
      ∙ ap (λ l. l ++ of_unit k (at_unit k (closing_part S).events)) (of_unit-below k (walk_events (stream ms)) first)
      ∙ of_unit-at k (closing_part S).events

  calls_end : calls_of_unit k (calls ms) ≡ calls_in (at_unit k (closing_part S).events)
  calls_end = calls_of_unit-in k (events ms) ∙ ap calls_in end_events

  outputs_end : outputs_of_unit k (outputs ms) ≡ outputs_in (at_unit k (closing_part S).events)
  outputs_end = outputs_of_unit-in k (events ms) ∙ ap outputs_in end_events

  verdict_end : full_by (stream ms) ≡ None → is_full_now S ≡ false → verdict ms ≡ Ok S.next.number
  verdict_end room full =
      ap verdict (sym (append-nil ms)) ∙ verdict-cut ms [] none
      ∙ ap (λ (f : Option ℕ). full_or f (verdict_from S k [])) room
      ∙ ap (λ (b : Bool). refused_at k (full_or_cause b None) (Ok S.next.number)) full

pub ended : {B H : Type 0} (t : Given) (o : Options) (us : List NalUnit) (old new : Seen B H)
    → StandsAfter o us old
    → Ends t (traces_of old.log old.handed old.asked old.view)
    (traces_of new.log new.handed new.asked new.view) old.view.state old.view.standing new.view.standing
    → Ended t o us old new
ended t o us old new after ends =
    let ms = meant o us in
    let same = length_meant o none_kept us in
    let asked_is = ap (λ (s : Standing). flat_map call_in (closing_part s).events) after.stands
    ∙ sym (calls_are (length ms) (closing_part (standing_after ms)).events)
    ∙ sym (ap (map asked) (calls_end ms after.goes_on)) ∙ ap (λ (n : ℕ). map asked (calls_of_unit n (calls ms))) same in
    record {
      verdict = verdict_end ms after.goes_on after.room (ap is_full_now (sym after.stands) ∙ ends.room)
          ∙ ap (λ (s : Standing). Ok s.next.number) (sym after.stands);
      calls = record {
        made = ends.does.calls;
        log = ends.does.log;
        calls_are = ends.does.made ∙ asked_is;
        timed = ends.does.timed;
        handed = ends.does.handed
            ∙ ap (logged old.handed) (handed_calls t (closing_part old.view.standing).events
            ∙ ap (flat_map (handed_by t)) asked_is);
      };
      outputs = record {
        out = ends.does.out;
        queue = ends.does.queue;
        outputs_are = ap (λ (n : ℕ). map (frame_at n) ends.does.out) (sym same)
            ∙ outputs_are (length ms) (closing_part (standing_after ms)).events ends.does.out
            (ends.does.shown
            ∙ ap (λ (s : Standing). flat_map output_in (closing_part s).events) after.stands)
            ∙ sym (outputs_end ms after.goes_on) ∙ ap (λ (n : ℕ). outputs_of_unit n (outputs ms)) same;
      };
    }
