-- A unit that means nothing may be taken out.
use Rattle.std.proofs.Common.{◌≡◌, ℕ, ◌+◌, ◌≤◌, Bool, true, false, cond, List, [], ◌∷◌, ◌++◌}
use Rattle.std.proofs.Common.{length, map, refl, sym, ◌∙◌, ap, subst, arith, Option, Some, None}
use Rattle.std.proofs.Common.{is_some, Result, Err, zero-add}
use Rattle.std.proofs.lemmas.Bool.Decides.{nat_tests}
use Rattle.std.proofs.lemmas.List.{map-append}
use Rattle.hevc_walk.specs.Meanings.{Meaning, Other}
use Rattle.hevc_walk.specs.Walk.{Event, Called, Output, at_unit}
use Rattle.hevc_walk.specs.Refusals.{Cause, Refusal}
use Rattle.hevc_walk.specs.Results.{OutputPicture, calls_in, outputs_in, calls, outputs, verdict}
use Rattle.hevc_walk_units.specs.Units.{Standing, at_first, unit_part, refusal_at, closing_part}
use Rattle.hevc_walk_units.specs.Units.{events_from, verdict_from, refused_at}
use Rattle.hevc_walk_agree.specs.Raised.{raised, raised_call, raised_output, raised_verdict}
use Rattle.hevc_walk_agree.proofs.Joined.{events-same, verdict-same}

abbrev raised_event : ℕ → ℕ × Event → ℕ × Event
raised_event k e = (raised k e.0, e.1)

at-raised : (k u v : ℕ) (es : List Event) → raised k u ≡ v → at_unit v es ≡ map (raised_event k) (at_unit u es)
at-raised k u v [] h = refl
at-raised k u v (e ∷ es) h = ap (λ (n : ℕ). (n, e) ∷ at_unit v es) (sym h)
    ∙ ap (λ l. (raised k u, e) ∷ l) (at-raised k u v es h)

above : (k u : ℕ) → k ≤ u → raised k u ≡ u + 1
above k u h = grind (arith, nat_tests)

below : (k u : ℕ) → u + 1 ≤ k → raised k u ≡ u
below k u h = grind (arith, nat_tests)

-- one unit's events, and what comes after them
step-raised : (k u v : ℕ) (es : List Event) (b : Bool) (later later' : List (ℕ × Event)) → raised k u ≡ v
    → later ≡ map (raised_event k) later'
    → at_unit v es ++ cond b [] later ≡ map (raised_event k) (at_unit u es ++ cond b [] later')
step-raised k u v es true later later' h is = ap (λ l. l ++ []) (at-raised k u v es h)
    ∙ sym (map-append (raised_event k) (at_unit u es) [])
step-raised k u v es false later later' h is = ap (λ l. l ++ later) (at-raised k u v es h)
    ∙ ap (λ l. map (raised_event k) (at_unit u es) ++ l) is ∙ sym (map-append (raised_event k) (at_unit u es) later')

next_place : (j : ℕ) (u : Meaning) (us : List Meaning) → j + 1 + length us ≡ j + length (u ∷ us)
next_place j u us = omega arith

events-later : (k j : ℕ) (s : Standing) (us : List Meaning) → k ≤ j
    → events_from s (j + 1) us ≡ map (raised_event k) (events_from s j us)
events-later k j s [] h = at-raised k j (j + 1) (closing_part s).events (above k j h)
events-later k j s (u ∷ us) h =
    step-raised k j (j + 1) (unit_part u s).events (is_some (refusal_at u s)) _ _ (above k j h)
    (events-later k (j + 1) (unit_part u s).next us (omega (arith, h)))

events-dropped : (j : ℕ) (s : Standing) (front back : List Meaning)
    → events_from s j (front ++ Other ∷ back) ≡ map (raised_event (j + length front)) (events_from s j (front ++ back))
events-dropped j s [] back = events-later (j + 0) j s back (omega arith)
events-dropped j s (u ∷ front) back =
    step-raised (j + length (u ∷ front)) j j (unit_part u s).events (is_some (refusal_at u s)) _ _
    (below (j + length (u ∷ front)) j (omega arith))
    (subst (λ (k : ℕ). events_from (unit_part u s).next (j + 1) (front ++ Other ∷ back) ≡ map
    (raised_event k) (events_from (unit_part u s).next (j + 1) (front ++ back))) (next_place j u front)
    (events-dropped (j + 1) (unit_part u s).next front back))

calls-raised : (k : ℕ) (es : List (ℕ × Event)) → calls_in (map (raised_event k) es) ≡ map (raised_call k) (calls_in es)
calls-raised k [] = refl
calls-raised k ((u, Called call) ∷ es) = ap (λ l. (raised k u, call) ∷ l) (calls-raised k es)
calls-raised k ((u, Output number count) ∷ es) = calls-raised k es

output-raised : (k : ℕ) (es : List (ℕ × Event))
    → outputs_in (map (raised_event k) es) ≡ map (raised_output k) (outputs_in es)
output-raised k [] = refl
output-raised k ((u, Called call) ∷ es) = output-raised k es
output-raised k ((u, Output number count) ∷ es) =
    ap (λ (l : List OutputPicture). record { number = number; order_count = count; unit = raised k u } ∷ l)
    (output-raised k es)

refused-raised : (k u v : ℕ) (cause : Option Cause) (later later' : Result ℕ Refusal) → raised k u ≡ v
    → later ≡ raised_verdict k later' → refused_at v cause later ≡ raised_verdict k (refused_at u cause later')
refused-raised k u v None later later' h is = is
refused-raised k u v (Some cause) later later' h is = ap (λ (n : ℕ). Err (record { unit = n; cause = cause })) (sym h)

verdict-later : (k j : ℕ) (s : Standing) (us : List Meaning) → k ≤ j
    → verdict_from s (j + 1) us ≡ raised_verdict k (verdict_from s j us)
verdict-later k j s [] h = refused-raised k j (j + 1) _ _ _ (above k j h) refl
verdict-later k j s (u ∷ us) h =
    refused-raised k j (j + 1) _ _ _ (above k j h) (verdict-later k (j + 1) (unit_part u s).next us (omega (arith, h)))

verdict-dropped : (j : ℕ) (s : Standing) (front back : List Meaning)
    → verdict_from s j (front ++ Other ∷ back) ≡ raised_verdict (j + length front) (verdict_from s j (front ++ back))
verdict-dropped j s [] back = verdict-later (j + 0) j s back (omega arith)
verdict-dropped j s (u ∷ front) back =
    refused-raised (j + length (u ∷ front)) j j _ _ _ (below (j + length (u ∷ front)) j (omega arith))
    (subst (λ (k : ℕ). verdict_from (unit_part u s).next (j + 1) (front ++ Other ∷ back) ≡ raised_verdict k
    (verdict_from (unit_part u s).next (j + 1) (front ++ back))) (next_place j u front)
    (verdict-dropped (j + 1) (unit_part u s).next front back))

pub dropped_calls : (front back : List Meaning)
    → calls (front ++ Other ∷ back) ≡ map (raised_call (length front)) (calls (front ++ back))
dropped_calls front back =
    sym (ap calls_in (events-same (front ++ Other ∷ back)))
    ∙ ap calls_in (events-dropped 0 at_first front back)
    ∙ calls-raised (0 + length front) (events_from at_first 0 (front ++ back))
    ∙ ap (map (raised_call (0 + length front))) (ap calls_in (events-same (front ++ back)))
    ∙ ap (λ (k : ℕ). map (raised_call k) (calls (front ++ back))) (zero-add (length front))

pub dropped_outputs : (front back : List Meaning)
    → outputs (front ++ Other ∷ back) ≡ map (raised_output (length front)) (outputs (front ++ back))
dropped_outputs front back =
    sym (ap outputs_in (events-same (front ++ Other ∷ back)))
    ∙ ap outputs_in (events-dropped 0 at_first front back)
    ∙ output-raised (0 + length front) (events_from at_first 0 (front ++ back))
    ∙ ap (map (raised_output (0 + length front))) (ap outputs_in (events-same (front ++ back)))
    ∙ ap (λ (k : ℕ). map (raised_output k) (outputs (front ++ back))) (zero-add (length front))

pub dropped_verdict : (front back : List Meaning)
    → verdict (front ++ Other ∷ back) ≡ raised_verdict (length front) (verdict (front ++ back))
dropped_verdict front back =
    sym (verdict-same (front ++ Other ∷ back))
    ∙ verdict-dropped 0 at_first front back
    ∙ ap (raised_verdict (0 + length front)) (verdict-same (front ++ back))
    ∙ ap (λ (k : ℕ). raised_verdict k (verdict (front ++ back))) (zero-add (length front))
