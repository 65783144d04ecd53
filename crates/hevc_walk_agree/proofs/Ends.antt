-- Where a list of units stops, and that nothing is asked after its end.
use Rattle.std.proofs.Common.{◌≡◌, ℕ, ◌+◌, Bool, true, false, cond, List, [], ◌∷◌, ◌++◌, length}
use Rattle.std.proofs.Common.{sym, ◌∙◌, ap, subst, arith, Option, Some, None, is_some, add-zero}
use Rattle.std.proofs.Common.{zero-add}
use Rattle.hevc_walk.specs.Meanings.{Meaning}
use Rattle.hevc_walk.specs.Pictures.{Stream, with_unit, nothing_yet, stream, stream_from}
use Rattle.hevc_walk.specs.Walk.{at_unit}
use Rattle.hevc_walk.specs.Refusals.{Cause, Refusal, refusal, first_refusal, stop_from, stop}
use Rattle.hevc_walk.specs.Results.{events, calls, outputs, calls_in, outputs_in, calls_below, outputs_below}
use Rattle.hevc_walk_units.specs.Units as units
use Rattle.hevc_walk_units.specs.Units.{Standing, unit_part, refusal_at, closing_part, events_from}
use Rattle.hevc_walk_agree.proofs.Joined.{next-place, events-same}
use Rattle.hevc_walk_agree.proofs.Cuts.{AllBelow, AllBelow-append, AllBelow-at, below-all}
use Rattle.hevc_walk_agree.proofs.Cuts.{calls_below-in, outputs_below-in}

stop_from-last : (k : ℕ) (v : Stream) (us : List Meaning) (x : Meaning) → stop_from k v us ≡ None
    → stop_from k v (us ++ x ∷ []) ≡ first_refusal (k + length us) (refusal (stream_from k v us) x) None
stop_from-last k v [] x none = ap (λ (n : ℕ). first_refusal n (refusal v x) None) (sym (add-zero k))
stop_from-last k v (u ∷ us) x none = by_refusal (refusal v u) none (stop_from-last (k + 1) (with_unit k u v) us x)
  where
    last : ℕ → Option Refusal
    last n = first_refusal n (refusal (stream_from (k + 1) (with_unit k u v) us) x) None

    by_refusal : (r : Option Cause) → first_refusal k r (stop_from (k + 1) (with_unit k u v) us) ≡ None
        → (stop_from (k + 1) (with_unit k u v) us ≡ None
        → stop_from (k + 1) (with_unit k u v) (us ++ x ∷ []) ≡ last (k + 1 + length us))
        → first_refusal k r (stop_from (k + 1) (with_unit k u v) (us ++ x ∷ [])) ≡ last (k + length (u ∷ us))
    by_refusal None none further = further none ∙ ap last (next-place k u us)
    by_refusal (Some cause) none further = absurd (cc none)

-- a further unit stops exactly where it is refused
pub stop-last : (us : List Meaning) (x : Meaning) → stop us ≡ None
    → stop (us ++ x ∷ []) ≡ first_refusal (length us) (refusal (stream us) x) None
stop-last us x none = stop_from-last 0 nothing_yet us x none
    ∙ ap (λ (n : ℕ). first_refusal n (refusal (stream us) x) None) (zero-add (length us))

pub events_from-below : (k : ℕ) (s : Standing) (us : List Meaning) → AllBelow (k + length us + 1) (events_from s k us)
events_from-below k s [] = AllBelow-at (k + 0 + 1) k (closing_part s).events (omega arith)
events_from-below k s (u ∷ us) =
    AllBelow-append (k + length (u ∷ us) + 1) (at_unit k (unit_part u s).events) _
    (AllBelow-at (k + length (u ∷ us) + 1) k (unit_part u s).events (omega arith))
    (by_refusal (is_some (refusal_at u s))
    (subst (λ (n : ℕ). AllBelow (n + 1) (events_from (unit_part u s).next (k + 1) us)) (next-place k u us)
    (events_from-below (k + 1) (unit_part u s).next us)))
  where
    by_refusal : (b : Bool)
        → AllBelow (k + length (u ∷ us) + 1) (events_from (unit_part u s).next (k + 1) us)
        → AllBelow (k + length (u ∷ us) + 1) (cond b [] (events_from (unit_part u s).next (k + 1) us))
    by_refusal true h = tt
    by_refusal false h = h

all-below : (us : List Meaning) → AllBelow (length us + 1) (events us)
all-below us =
    subst (λ l. AllBelow (length us + 1) l) (events-same us)
    (subst (λ (n : ℕ). AllBelow (n + 1) (events_from units.at_first 0 us)) (zero-add (length us))
    (events_from-below 0 units.at_first us))

-- nothing comes after the end
pub calls-below : (us : List Meaning) → calls_below (length us + 1) (calls us) ≡ calls us
calls-below us = calls_below-in (length us + 1) (events us)
    ∙ ap calls_in (below-all (length us + 1) (events us) (all-below us))

pub outputs-below : (us : List Meaning) → outputs_below (length us + 1) (outputs us) ≡ outputs us
outputs-below us = outputs_below-in (length us + 1) (events us)
    ∙ ap outputs_in (below-all (length us + 1) (events us) (all-below us))
