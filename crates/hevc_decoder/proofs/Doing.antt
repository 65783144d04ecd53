-- What is done unit by unit.
use Rattle.std.proofs.Common.{◌≡◌, ◌⊎◌, inl, inr, ℕ, List, [], ◌∷◌, ◌++◌, map, refl, sym, ◌∙◌, ap, subst, append_assoc}
use Rattle.std.specs.Prelude.{Contains, Option}
use Rattle.std.proofs.lemmas.List.{map-append, append-nil}
use Rattle.std.proofs.lemmas.Grind.{flat_map-append}
use Rattle.hevc_walk.specs.Walk.{Event, at_unit}
use Rattle.hevc_walk.specs.Results.{calls_in, outputs_in}
use Rattle.hevc_walk_agree.proofs.Cuts.{calls_in-append, outputs_in-append}
use Rattle.hevc_bumping.specs.declared.frame.Frame.{Frame}
use Rattle.hevc_bumping.specs.Frames.{frame_ticket}
use Rattle.hevc_backend.specs.Trait.{logged}
use Rattle.hevc_driver.specs.Calls.{call_of, IsTimed, submission, submissions}
use Rattle.std.specs.List.{AllByRecursion, flat_map}
use Rattle.hevc_driver.specs.Given.{Given, handed_in}
use Rattle.hevc_driver.specs.Does.{Does}
use Rattle.hevc_driver.proofs.Doing.{all_both, logged_more, logged_none}
use Rattle.hevc_driver.proofs.Members.{part_left, part_right, part_either}
use Rattle.hevc_stateless.specs.Views.{traces_of}
use Rattle.hevc_stateless_laws.specs.Stands.{asked, frame_at}
use Rattle.hevc_stateless_laws.proofs.Standing.{calls_are, outputs_are}
use Rattle.hevc_decoder.specs.Names.{shown_at, output_picture, shown_ticket}
use Rattle.hevc_decoder.specs.Scenes.{Scene, Trail, trail_of, with_queue}
use Rattle.hevc_decoder.specs.Takes.{DoesAll, handed_at}

shown_outputs : {H : Type 0} (k : ℕ) (out : List (Frame H))
    → map output_picture (map (shown_at k) out) ≡ map (frame_at k) out
shown_outputs k [] = refl
shown_outputs k (f ∷ fs) = ap (λ l. frame_at k f ∷ l) (shown_outputs k fs)

shown_tickets : {H : Type 0} (k : ℕ) (out : List (Frame H))
    → map shown_ticket (map (shown_at k) out) ≡ map frame_ticket out
shown_tickets k [] = refl
shown_tickets k (f ∷ fs) = ap (λ l. frame_ticket f ∷ l) (shown_tickets k fs)

-- what comes with the events of one unit
handed_at_unit : (at : ℕ → Given) (k : ℕ) (es : List Event)
    → flat_map (handed_at at) (at_unit k es) ≡ flat_map (handed_in (at k)) es
handed_at_unit at k [] = refl
handed_at_unit at k (e ∷ es) = ap (λ l. handed_in (at k) e ++ l) (handed_at_unit at k es)

-- a call began with an empty queue, and what it output was moved
pub lifts : {B H : Type 0} {n m : Option ℕ} (at : ℕ → Given) (k : ℕ) (untimed : (at k).timestamp ≡ 0)
    (old new : Scene B H) (out : List (Frame H)) (done : List Event) → old.seen.view.queue ≡ []
    → new.shown ≡ old.shown ++ map (shown_at k) out
    → Does (at k) (traces_of old.seen.log old.seen.handed n old.seen.view)
    (traces_of new.seen.log new.seen.handed m (with_queue out new.seen).view) done
    → DoesAll at (trail_of old) (trail_of new) (at_unit k done)
lifts {B} {H} at k untimed old new out done empty shown x =
    let same : out ≡ x.out = x.queue ∙ ap (λ (q : List (Frame H)). q ++ x.out) empty in
    record {
      calls = x.calls;
      log = x.log;
      made = x.made ∙ sym (calls_are k done);
      timed = subst (λ (t : ℕ). AllByRecursion (IsTimed t) x.calls) untimed x.timed;
      handed = x.handed ∙ ap (logged old.seen.handed) (sym (handed_at_unit at k done));
      out = map (shown_at k) x.out;
      shown = shown ∙ ap (λ (l : List (Frame H)). old.shown ++ map (shown_at k) l) same;
      given = shown_outputs k x.out ∙ outputs_are k done x.out x.shown;
      tied = λ t h. x.tied t
          (subst (λ (l : List (ℕ × H)). Contains (l ++ new.seen.view.tickets) t) (shown_tickets k x.out) h);
    }

pub does_all_nothing : {H : Type 0} (at : ℕ → Given) (old new : Trail H) → new ≡ old → DoesAll at old new []
does_all_nothing {H} at old new same = record {
  calls = [];
  log = ap (λ (v : Trail H). v.log) same ∙ logged_none old.log;
  made = refl;
  timed = tt;
  handed = ap (λ (v : Trail H). v.handed) same ∙ logged_none old.handed;
  out = [];
  shown = ap (λ (v : Trail H). v.shown) same ∙ sym (append-nil old.shown);
  given = refl;
  tied = λ t h. part_left t old.tickets []
      (subst (λ (l : List (ℕ × H)). Contains l t) (ap (λ (v : Trail H). v.tickets) same) h);
}

pub does_all_then : {H : Type 0} (at : ℕ → Given) (a b c : Trail H) (d e : List (ℕ × Event))
    → DoesAll at a b d → DoesAll at b c e → DoesAll at a c (d ++ e)
does_all_then {H} at a b c d e x y = record {
  calls = x.calls ++ y.calls;
  log = y.log ∙ ap (λ log. logged log y.calls) x.log ∙ logged_more a.log x.calls y.calls;
  made = map-append call_of x.calls y.calls ∙ ap (λ l. l ++ map call_of y.calls) x.made
      ∙ ap (λ l. map asked (calls_in d) ++ l) y.made
      ∙ sym (ap (map asked) (calls_in-append d e) ∙ map-append asked (calls_in d) (calls_in e));
  timed = all_both (IsTimed 0) x.calls y.calls x.timed y.timed;
  handed = y.handed ∙ ap (λ handed. logged handed (flat_map (handed_at at) e)) x.handed
      ∙ logged_more a.handed (flat_map (handed_at at) d) (flat_map (handed_at at) e)
      ∙ ap (logged a.handed) (sym (flat_map-append (handed_at at) d e));
  out = x.out ++ y.out;
  shown = y.shown ∙ ap (λ q. q ++ y.out) x.shown ∙ append_assoc a.shown x.out y.out;
  given = map-append output_picture x.out y.out ∙ ap (λ l. l ++ map output_picture y.out) x.given
      ∙ ap (λ l. outputs_in d ++ l) y.given ∙ sym (outputs_in-append d e);
  tied = λ z h. from z (part_either z (map shown_ticket x.out) (map shown_ticket y.out ++ c.tickets)
      (subst (λ l. Contains l z) (ap (λ l. l ++ c.tickets) (map-append shown_ticket x.out y.out)
      ∙ append_assoc (map shown_ticket x.out) (map shown_ticket y.out) c.tickets) h));
}
  where
    all : List (ℕ × H)
    all = a.tickets ++ submissions (x.calls ++ y.calls)

    split : all ≡ (a.tickets ++ submissions x.calls) ++ submissions y.calls
    split = ap (λ l. a.tickets ++ l) (flat_map-append submission x.calls y.calls)
        ∙ sym (append_assoc a.tickets (submissions x.calls) (submissions y.calls))

    by_first : (z : ℕ × H) → Contains (map shown_ticket x.out ++ b.tickets) z → Contains all z
    by_first z h =
        subst (λ l. Contains l z) (sym split)
        (part_left z (a.tickets ++ submissions x.calls) (submissions y.calls) (x.tied z h))

    by_second : (z : ℕ × H) → Contains b.tickets z ⊎ Contains (submissions y.calls) z → Contains all z
    by_second z (inl h) = by_first z (part_right z (map shown_ticket x.out) b.tickets h)
    by_second z (inr h) =
        subst (λ l. Contains l z) (sym split) (part_right z (a.tickets ++ submissions x.calls) (submissions y.calls) h)

    from : (z : ℕ × H)
        → Contains (map shown_ticket x.out) z ⊎ Contains (map shown_ticket y.out ++ c.tickets) z → Contains all z
    from z (inl h) = by_first z (part_left z (map shown_ticket x.out) b.tickets h)
    from z (inr h) = by_second z (part_either z b.tickets (submissions y.calls) (y.tied z h))

-- what comes with each of these units is the same
same_handed : (at other : ℕ → Given) (es : List (ℕ × Event)) → AllByRecursion (λ e. at e.0 ≡ other e.0) es
    → flat_map (handed_at at) es ≡ flat_map (handed_at other) es
same_handed at other [] same = refl
same_handed at other ((k, e) ∷ es) (here, same) =
    ap (λ (g : Given). handed_in g e ++ flat_map (handed_at at) es) here
    ∙ ap (λ l. handed_in (other k) e ++ l) (same_handed at other es same)

pub does_all_as : {H : Type 0} (at other : ℕ → Given) (a b : Trail H) (es : List (ℕ × Event))
    → AllByRecursion (λ e. at e.0 ≡ other e.0) es → DoesAll at a b es → DoesAll other a b es
does_all_as at other a b es same x = record {
  calls = x.calls;
  log = x.log;
  made = x.made;
  timed = x.timed;
  handed = x.handed ∙ ap (logged a.handed) (same_handed at other es same);
  out = x.out;
  shown = x.shown;
  given = x.given;
  tied = x.tied;
}
