-- Units that mean nothing may be left out.
use Rattle.std.proofs.Common.{◌≡◌, ℕ, suc, ◌+◌, Bool, true, false, cond, List, [], ◌∷◌, ◌++◌, map}
use Rattle.std.proofs.Common.{refl, sym, ◌∙◌, ap, ap₂, arith, Option, Some, None, is_some, Result}
use Rattle.std.proofs.Common.{Ok, Err, add-zero, zero-add}
use Rattle.std.proofs.lemmas.List.{map-append}
use Rattle.hevc_walk.specs.Meanings.{Meaning}
use Rattle.hevc_walk.specs.Walk.{Event, Called, Output, at_unit}
use Rattle.hevc_walk.specs.Refusals.{Cause, Refusal}
use Rattle.hevc_walk.specs.Results.{OutputPicture, calls_in, outputs_in, calls, outputs, verdict}
use Rattle.hevc_walk_units.specs.Units.{Standing, at_first, unit_part, refusal_at, is_full_at}
use Rattle.hevc_walk_units.specs.Units.{is_full_now, closing_part, events_from, verdict_from}
use Rattle.hevc_walk_units.specs.Units.{refused_at, full_or_cause}
use Rattle.hevc_walk_agree.proofs.Joined.{events-same, verdict-same}
use Rattle.hevc_walk_drop.specs.Dropping.{with_flags, DropsOther, kept_before, renumbered_call}
use Rattle.hevc_walk_drop.specs.Dropping.{renumbered_output, renumbered_verdict}

abbrev one : Bool → ℕ
one keep = cond keep 1 0

abbrev placed : (ℕ → ℕ) → ℕ × Event → ℕ × Event
placed g e = (g e.0, e.1)

abbrev placed_verdict : (ℕ → ℕ) → Result ℕ Refusal → Result ℕ Refusal
placed_verdict g (Ok n) = Ok n
placed_verdict g (Err r) = Err (record r { unit = g r.unit })

-- unit i comes to be at j, and those after it by the flags
abbrev Places : (ℕ → ℕ) → ℕ → ℕ → List Bool → Type 0
Places g i j flags = (d : ℕ) → g (i + d) ≡ j + kept_before flags d

none-before : (flags : List Bool) → kept_before flags 0 ≡ 0
none-before [] = refl
none-before (keep ∷ flags) = refl

here : (g : ℕ → ℕ) (i j : ℕ) (flags : List Bool) → Places g i j flags → g i ≡ j
here g i j flags h = sym (ap g (add-zero i)) ∙ h 0 ∙ ap (λ (n : ℕ). j + n) (none-before flags) ∙ add-zero j

behind : (g : ℕ → ℕ) (i j : ℕ) (keep : Bool) (flags : List Bool) → Places g i j (keep ∷ flags)
    → Places g (i + 1) (j + one keep) flags
behind g i j keep flags h d = ap g (next d) ∙ h (suc d) ∙ sum (one keep) (kept_before flags d)
  where
    next : (d : ℕ) → i + 1 + d ≡ i + suc d
    next d = omega arith

    sum : (a b : ℕ) → j + (a + b) ≡ j + a + b
    sum a b = omega arith

at-placed : (g : ℕ → ℕ) (i j : ℕ) (es : List Event) → g i ≡ j → map (placed g) (at_unit i es) ≡ at_unit j es
at-placed g i j [] h = refl
at-placed g i j (e ∷ es) h = ap₂ (λ (n : ℕ) l. (n, e) ∷ l) h (at-placed g i j es h)

events-kept : (g : ℕ → ℕ) (i j : ℕ) (s : Standing) (flags : List Bool) (us : List Meaning)
    → Places g i j flags → DropsOther flags us
    → map (placed g) (events_from s i us) ≡ events_from s j (with_flags flags us)
events-kept g i j s [] [] h drops = at-placed g i j (closing_part s).events (here g i j [] h)
events-kept g i j s [] (u ∷ us) h drops = absurd drops
events-kept g i j s (keep ∷ flags) [] h drops = absurd drops
events-kept g i j s (true ∷ flags) (u ∷ us) h drops =
    map-append (placed g) (at_unit i (unit_part u s).events)
    (cond (is_some (refusal_at u s)) [] (events_from (unit_part u s).next (i + 1) us))
    ∙ ap₂ (λ l m. l ++ m) (at-placed g i j (unit_part u s).events (here g i j (true ∷ flags) h))
    (by_refusal (is_some (refusal_at u s))
    (events-kept g (i + 1) (j + 1) (unit_part u s).next flags us (behind g i j true flags h) drops))
  where
    by_refusal : (b : Bool)
        → map (placed g) (events_from (unit_part u s).next (i + 1) us) ≡ events_from (unit_part u s).next
        (j + 1) (with_flags flags us)
        → map (placed g) (cond b [] (events_from (unit_part u s).next (i + 1) us)) ≡ cond b []
        (events_from (unit_part u s).next (j + 1) (with_flags flags us))
    by_refusal true h = refl
    by_refusal false h = h
events-kept g i j s (false ∷ flags) (u ∷ us) h drops =
    ap (λ (x : Meaning). map (placed g) (events_from s i (x ∷ us))) drops.0
    ∙ events-kept g (i + 1) (j + 0) s flags us (behind g i j false flags h) drops.1
    ∙ ap (λ (n : ℕ). events_from s n (with_flags flags us)) (add-zero j)

refused-kept : (g : ℕ → ℕ) (i j : ℕ) (cause : Option Cause) (later later' : Result ℕ Refusal) → g i ≡ j
    → placed_verdict g later ≡ later' → placed_verdict g (refused_at i cause later) ≡ refused_at j cause later'
refused-kept g i j None later later' h is = is
refused-kept g i j (Some cause) later later' h is = ap (λ (n : ℕ). Err (record { unit = n; cause = cause })) h

verdict-kept : (g : ℕ → ℕ) (i j : ℕ) (s : Standing) (flags : List Bool) (us : List Meaning)
    → Places g i j flags → DropsOther flags us
    → placed_verdict g (verdict_from s i us) ≡ verdict_from s j (with_flags flags us)
verdict-kept g i j s [] [] h drops =
    refused-kept g i j (full_or_cause (is_full_now s) None) (Ok s.next.number) (Ok s.next.number) (here g i j [] h) refl
verdict-kept g i j s [] (u ∷ us) h drops = absurd drops
verdict-kept g i j s (keep ∷ flags) [] h drops = absurd drops
verdict-kept g i j s (true ∷ flags) (u ∷ us) h drops =
    refused-kept g i j (full_or_cause (is_full_at u s) (refusal_at u s)) _ _ (here g i j (true ∷ flags) h)
    (verdict-kept g (i + 1) (j + 1) (unit_part u s).next flags us (behind g i j true flags h) drops)
verdict-kept g i j s (false ∷ flags) (u ∷ us) h drops =
    ap (λ (x : Meaning). placed_verdict g (verdict_from s i (x ∷ us))) drops.0
    ∙ verdict-kept g (i + 1) (j + 0) s flags us (behind g i j false flags h) drops.1
    ∙ ap (λ (n : ℕ). verdict_from s n (with_flags flags us)) (add-zero j)

calls-placed : (g : ℕ → ℕ) (es : List (ℕ × Event))
    → calls_in (map (placed g) es) ≡ map (λ c. (g c.0, c.1)) (calls_in es)
calls-placed g [] = refl
calls-placed g ((k, Called call) ∷ es) = ap (λ l. (g k, call) ∷ l) (calls-placed g es)
calls-placed g ((k, Output number count) ∷ es) = calls-placed g es

outputs-placed : (g : ℕ → ℕ) (es : List (ℕ × Event))
    → outputs_in (map (placed g) es) ≡ map (λ (o : OutputPicture). record o { unit = g o.unit }) (outputs_in es)
outputs-placed g [] = refl
outputs-placed g ((k, Called call) ∷ es) = outputs-placed g es
outputs-placed g ((k, Output number count) ∷ es) =
    ap (λ (l : List OutputPicture). record { number = number; order_count = count; unit = g k } ∷ l)
    (outputs-placed g es)

whole : (flags : List Bool) → Places (kept_before flags) 0 0 flags
whole flags d = ap (kept_before flags) (zero-add d) ∙ sym (zero-add (kept_before flags d))

pub dropped_calls : (flags : List Bool) (us : List Meaning) → DropsOther flags us
    → calls (with_flags flags us) ≡ map (renumbered_call flags) (calls us)
dropped_calls flags us drops =
    sym (ap calls_in (events-same (with_flags flags us)))
    ∙ ap calls_in (sym (events-kept (kept_before flags) 0 0 at_first flags us (whole flags) drops))
    ∙ calls-placed (kept_before flags) (events_from at_first 0 us)
    ∙ ap (λ es. map (renumbered_call flags) (calls_in es)) (events-same us)

pub dropped_outputs : (flags : List Bool) (us : List Meaning) → DropsOther flags us
    → outputs (with_flags flags us) ≡ map (renumbered_output flags) (outputs us)
dropped_outputs flags us drops =
    sym (ap outputs_in (events-same (with_flags flags us)))
    ∙ ap outputs_in (sym (events-kept (kept_before flags) 0 0 at_first flags us (whole flags) drops))
    ∙ outputs-placed (kept_before flags) (events_from at_first 0 us)
    ∙ ap (λ es. map (renumbered_output flags) (outputs_in es)) (events-same us)

same_verdict : (flags : List Bool) (r : Result ℕ Refusal)
    → placed_verdict (kept_before flags) r ≡ renumbered_verdict flags r
same_verdict flags (Ok n) = refl
same_verdict flags (Err r) = refl

pub dropped_verdict : (flags : List Bool) (us : List Meaning) → DropsOther flags us
    → verdict (with_flags flags us) ≡ renumbered_verdict flags (verdict us)
dropped_verdict flags us drops =
    sym (verdict-same (with_flags flags us))
    ∙ sym (verdict-kept (kept_before flags) 0 0 at_first flags us (whole flags) drops)
    ∙ ap (placed_verdict (kept_before flags)) (verdict-same us)
    ∙ same_verdict flags (verdict us)
