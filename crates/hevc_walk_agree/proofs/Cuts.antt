-- What some units have done, and what those after them do.
use Rattle.std.proofs.Common.{◌≡◌, ℕ, ◌+◌, ◌<◌, ◌≤◌, Bool, true, false, cond, List, [], ◌∷◌, ◌++◌}
use Rattle.std.proofs.Common.{length, filter, refl, sym, ◌∙◌, ap, subst, append_assoc, append-nil}
use Rattle.std.proofs.Common.{arith, Option, Some, None, is_some, add-zero, zero-add}
use Rattle.std.specs.Prelude.{nat_lt, nat_eq}
use Rattle.std.proofs.lemmas.Bool.Decides.{nat_tests}
use Rattle.std.proofs.lemmas.Grind.{flat_map-append}
use Rattle.std.proofs.lemmas.List.Elements.{filter-append}
use Rattle.hevc_walk.specs.Meanings.{Meaning}
use Rattle.hevc_walk.specs.Pictures.{Stream, with_unit, nothing_yet, stream, stream_from}
use Rattle.hevc_walk.specs.Walk.{Event, Called, Output, Part, at_unit}
use Rattle.hevc_walk.specs.Refusals.{Cause, Refusal, refusal, first_refusal, stop_from, stop}
use Rattle.hevc_walk.specs.Results.{OutputPicture, walk_events, events, calls, outputs, verdict}
use Rattle.hevc_walk.specs.Results.{calls_in, outputs_in, call_at, output_at, calls_below}
use Rattle.hevc_walk.specs.Results.{calls_of_unit, outputs_below, outputs_of_unit, full_or}
use Rattle.hevc_walk_units.specs.Units.{Standing, unit_part, refusal_at, is_full_at, closing_part}
use Rattle.hevc_walk_units.specs.Units.{events_from, verdict_from, refused_at, full_or_cause}
use Rattle.hevc_walk_agree.specs.Standings.{standing, full_by, Takes}
use Rattle.hevc_walk_agree.proofs.Joined.{Outcome, outcome, refusal-same, next-place, fills-step}
use Rattle.hevc_walk_agree.proofs.Joined.{events-same, verdict-same}

abbrev pub AllBelow : ℕ → List (ℕ × Event) → Type 0
AllBelow k [] = Unit {0}
AllBelow k (e ∷ es) = (e.0 < k) × AllBelow k es

abbrev pub AllFrom : ℕ → List (ℕ × Event) → Type 0
AllFrom k [] = Unit {0}
AllFrom k (e ∷ es) = (k ≤ e.0) × AllFrom k es

pub AllBelow-append : (k : ℕ) (xs ys : List (ℕ × Event)) → AllBelow k xs → AllBelow k ys → AllBelow k (xs ++ ys)
AllBelow-append k [] ys h g = g
AllBelow-append k (x ∷ xs) ys h g = (h.0, AllBelow-append k xs ys h.1 g)

pub AllBelow-at : (k j : ℕ) (es : List Event) → j < k → AllBelow k (at_unit j es)
AllBelow-at k j [] h = tt
AllBelow-at k j (e ∷ es) h = (h, AllBelow-at k j es h)

pub AllBelow-more : (k j : ℕ) (es : List (ℕ × Event)) → k ≤ j → AllBelow k es → AllBelow j es
AllBelow-more k j [] h b = tt
AllBelow-more k j (e ∷ es) h b = (let g = b.0 in omega (arith, h, g), AllBelow-more k j es h b.1)

pub AllFrom-append : (k : ℕ) (xs ys : List (ℕ × Event)) → AllFrom k xs → AllFrom k ys → AllFrom k (xs ++ ys)
AllFrom-append k [] ys h g = g
AllFrom-append k (x ∷ xs) ys h g = (h.0, AllFrom-append k xs ys h.1 g)

pub AllFrom-at : (k j : ℕ) (es : List Event) → k ≤ j → AllFrom k (at_unit j es)
AllFrom-at k j [] h = tt
AllFrom-at k j (e ∷ es) h = (h, AllFrom-at k j es h)

-- what the units from the k-th on do is at k or after
pub events_from-from : (k j : ℕ) (s : Standing) (us : List Meaning) → k ≤ j → AllFrom k (events_from s j us)
events_from-from k j s [] h = AllFrom-at k j (closing_part s).events h
events_from-from k j s (u ∷ us) h =
    AllFrom-append k (at_unit j (unit_part u s).events) _ (AllFrom-at k j (unit_part u s).events h)
    (by_test (is_some (refusal_at u s)) (events_from-from k (j + 1) (unit_part u s).next us (omega (arith, h))))
  where
    by_test : (b : Bool) → AllFrom k (events_from (unit_part u s).next (j + 1) us)
        → AllFrom k (cond b [] (events_from (unit_part u s).next (j + 1) us))
    by_test true g = tt
    by_test false g = g

-- a unit that isn't refused leads on
goes_on : (k : ℕ) (v : Stream) (part : Part Standing) (fills : Bool) (w : Stream) (r : Option Cause)
    (later : Option Refusal) → Outcome k v part fills w r → first_refusal k r later ≡ None
    → (r ≡ None) × Takes k v part fills w × (later ≡ None)
goes_on k v part fills w None later takes none = (refl, takes, none)
goes_on k v part fills w (Some cause) later takes none = absurd (cc none)

-- what some units have done is before the next one
pub stream-below : (k : ℕ) (v : Stream) (us : List Meaning) → stop_from k v us ≡ None
    → AllBelow k (walk_events v) → AllBelow (k + length us) (walk_events (stream_from k v us))
stream-below k v [] none h = AllBelow-more k (k + 0) (walk_events v) (omega arith) h
stream-below k v (u ∷ us) none h =
    let part = unit_part u (standing v) in
    let w = with_unit k u v in
    let on = goes_on k v part (is_full_at u (standing v)) w (refusal v u) (stop_from (k + 1) w us)
    (outcome k v u) none in
    let done : AllBelow (k + 1) (walk_events w) =
    subst (λ (l : List (ℕ × Event)). AllBelow (k + 1) l) (sym on.1.events)
    (AllBelow-append (k + 1) (walk_events v) (at_unit k part.events)
    (AllBelow-more k (k + 1) (walk_events v) (omega arith) h) (AllBelow-at (k + 1) k part.events (omega arith))) in
    subst (λ (n : ℕ). AllBelow n (walk_events (stream_from (k + 1) w us))) (next-place k u us)
    (stream-below (k + 1) w us on.2 done)

-- the first units, then those after them
cut-from : (k : ℕ) (v : Stream) (front back : List Meaning) → stop_from k v front ≡ None
    → walk_events v ++ events_from (standing v) k (front ++ back) ≡ walk_events (stream_from k v front)
    ++ events_from (standing (stream_from k v front)) (k + length front) back
cut-from k v [] back none = ap (λ (n : ℕ). walk_events v ++ events_from (standing v) n back) (sym (add-zero k))
cut-from k v (u ∷ front) back none =
    let part = unit_part u (standing v) in
    let w = with_unit k u v in
    let on = goes_on k v part (is_full_at u (standing v)) w (refusal v u) (stop_from (k + 1) w front)
    (outcome k v u) none in
    ap (λ (r : Option Cause). walk_events v
    ++ (at_unit k part.events ++ cond (is_some r) [] (events_from part.next (k + 1) (front ++ back))))
    (refusal-same v u ∙ on.0)
    ∙ sym (append_assoc (walk_events v) (at_unit k part.events) (events_from part.next (k + 1) (front ++ back)))
    ∙ ap (λ l. l ++ events_from part.next (k + 1) (front ++ back)) (sym on.1.events)
    ∙ ap (λ (s : Standing). walk_events w ++ events_from s (k + 1) (front ++ back)) on.1.next
    ∙ cut-from (k + 1) w front back on.2
    ∙ ap (λ (n : ℕ). walk_events (stream_from (k + 1) w front)
    ++ events_from (standing (stream_from (k + 1) w front)) n back) (next-place k u front)

verdict-cut-from : (k : ℕ) (v : Stream) (front back : List Meaning) → stop_from k v front ≡ None
    → full_or (full_by v) (verdict_from (standing v) k (front ++ back)) ≡ full_or
    (full_by (stream_from k v front)) (verdict_from (standing (stream_from k v front)) (k + length front) back)
verdict-cut-from k v [] back none =
    ap (λ (n : ℕ). full_or (full_by v) (verdict_from (standing v) n back)) (sym (add-zero k))
verdict-cut-from k v (u ∷ front) back none =
    let part = unit_part u (standing v) in
    let fills = is_full_at u (standing v) in
    let w = with_unit k u v in
    let on = goes_on k v part fills w (refusal v u) (stop_from (k + 1) w front) (outcome k v u) none in
    ap (λ (r : Option Cause). full_or (full_by v)
    (refused_at k (full_or_cause fills r) (verdict_from part.next (k + 1) (front ++ back)))) (refusal-same v u ∙ on.0)
    ∙ fills-step k (full_by v) fills (verdict_from part.next (k + 1) (front ++ back))
    ∙ ap (λ (f : Option ℕ). full_or f (verdict_from part.next (k + 1) (front ++ back))) (sym on.1.full)
    ∙ ap (λ (s : Standing). full_or (full_by w) (verdict_from s (k + 1) (front ++ back))) on.1.next
    ∙ verdict-cut-from (k + 1) w front back on.2
    ∙ ap (λ (n : ℕ). full_or (full_by (stream_from (k + 1) w front))
    (verdict_from (standing (stream_from (k + 1) w front)) n back)) (next-place k u front)

-- the events of units that aren't refused, then those of the units after them
pub events-cut : (front back : List Meaning) → stop front ≡ None
    → events (front ++ back) ≡ walk_events (stream front) ++ events_from (standing (stream front)) (length front) back
events-cut front back none =
    sym (events-same (front ++ back))
    ∙ cut-from 0 nothing_yet front back none
    ∙ ap (λ (n : ℕ). walk_events (stream front) ++ events_from (standing (stream front)) n back)
    (zero-add (length front))

pub verdict-cut : (front back : List Meaning) → stop front ≡ None
    → verdict (front ++ back) ≡ full_or (full_by (stream front))
    (verdict_from (standing (stream front)) (length front) back)
verdict-cut front back none =
    sym (verdict-same (front ++ back))
    ∙ verdict-cut-from 0 nothing_yet front back none
    ∙ ap (λ (n : ℕ). full_or (full_by (stream front)) (verdict_from (standing (stream front)) n back))
    (zero-add (length front))

-- the events below k, and those at k
abbrev pub below : ℕ → List (ℕ × Event) → List (ℕ × Event)
below k es = filter (λ e. nat_lt e.0 k) es

abbrev pub of_unit : ℕ → List (ℕ × Event) → List (ℕ × Event)
of_unit k es = filter (λ e. nat_eq e.0 k) es

is_below : (j k : ℕ) → j < k → nat_lt j k ≡ true
is_below j k h = grind (arith, nat_tests)

not_below : (j k : ℕ) → k ≤ j → nat_lt j k ≡ false
not_below j k h = grind (arith, nat_tests)

not_at : (j k : ℕ) → j < k → nat_eq j k ≡ false
not_at j k h = grind (arith, nat_tests)

not_at_behind : (j k : ℕ) → k < j → nat_eq j k ≡ false
not_at_behind j k h = grind (arith, nat_tests)

is_at : (k : ℕ) → nat_eq k k ≡ true
is_at k = grind (arith, nat_tests)

pub below-all : (k : ℕ) (es : List (ℕ × Event)) → AllBelow k es → below k es ≡ es
below-all k [] h = refl
below-all k (e ∷ es) h = ap (λ (b : Bool). cond b (e ∷ below k es) (below k es)) (is_below e.0 k h.0)
    ∙ ap (λ l. e ∷ l) (below-all k es h.1)

pub below-none : (k : ℕ) (es : List (ℕ × Event)) → AllFrom k es → below k es ≡ []
below-none k [] h = refl
below-none k (e ∷ es) h = ap (λ (b : Bool). cond b (e ∷ below k es) (below k es)) (not_below e.0 k h.0)
    ∙ below-none k es h.1

pub of_unit-below : (k : ℕ) (es : List (ℕ × Event)) → AllBelow k es → of_unit k es ≡ []
of_unit-below k [] h = refl
of_unit-below k (e ∷ es) h = ap (λ (b : Bool). cond b (e ∷ of_unit k es) (of_unit k es)) (not_at e.0 k h.0)
    ∙ of_unit-below k es h.1

pub of_unit-behind : (k : ℕ) (es : List (ℕ × Event)) → AllFrom (k + 1) es → of_unit k es ≡ []
of_unit-behind k [] h = refl
of_unit-behind k (e ∷ es) h =
    ap (λ (b : Bool). cond b (e ∷ of_unit k es) (of_unit k es))
    (not_at_behind e.0 k (let g = h.0 in omega (arith, g))) ∙ of_unit-behind k es h.1

pub of_unit-at : (k : ℕ) (es : List Event) → of_unit k (at_unit k es) ≡ at_unit k es
of_unit-at k [] = refl
of_unit-at k (e ∷ es) =
    ap (λ (b : Bool). cond b ((k, e) ∷ of_unit k (at_unit k es)) (of_unit k (at_unit k es))) (is_at k)
    ∙ ap (λ l. (k, e) ∷ l) (of_unit-at k es)

-- taking the calls and the outputs out commutes with both
pub calls_below-in : (k : ℕ) (es : List (ℕ × Event)) → calls_below k (calls_in es) ≡ calls_in (below k es)
calls_below-in k [] = refl
calls_below-in k ((j, Called call) ∷ es) =
    ap (λ l. cond (nat_lt j k) ((j, call) ∷ l) l) (calls_below-in k es) ∙ by_test (nat_lt j k)
  where
    by_test : (b : Bool)
        → cond b ((j, call) ∷ calls_in (below k es)) (calls_in (below k es)) ≡ calls_in
        (cond b ((j, Called call) ∷ below k es) (below k es))
    by_test true = refl
    by_test false = refl
calls_below-in k ((j, Output number order_count) ∷ es) = calls_below-in k es ∙ by_test (nat_lt j k)
  where
    by_test : (b : Bool)
        → calls_in (below k es) ≡ calls_in (cond b ((j, Output number order_count) ∷ below k es) (below k es))
    by_test true = refl
    by_test false = refl

pub calls_of_unit-in : (k : ℕ) (es : List (ℕ × Event)) → calls_of_unit k (calls_in es) ≡ calls_in (of_unit k es)
calls_of_unit-in k [] = refl
calls_of_unit-in k ((j, Called call) ∷ es) =
    ap (λ l. cond (nat_eq j k) ((j, call) ∷ l) l) (calls_of_unit-in k es) ∙ by_test (nat_eq j k)
  where
    by_test : (b : Bool)
        → cond b ((j, call) ∷ calls_in (of_unit k es)) (calls_in (of_unit k es)) ≡ calls_in
        (cond b ((j, Called call) ∷ of_unit k es) (of_unit k es))
    by_test true = refl
    by_test false = refl
calls_of_unit-in k ((j, Output number order_count) ∷ es) = calls_of_unit-in k es ∙ by_test (nat_eq j k)
  where
    by_test : (b : Bool)
        → calls_in (of_unit k es) ≡ calls_in (cond b ((j, Output number order_count) ∷ of_unit k es) (of_unit k es))
    by_test true = refl
    by_test false = refl

pub outputs_below-in : (k : ℕ) (es : List (ℕ × Event)) → outputs_below k (outputs_in es) ≡ outputs_in (below k es)
outputs_below-in k [] = refl
outputs_below-in k ((j, Output number order_count) ∷ es) =
    ap (λ (l : List OutputPicture). cond (nat_lt j k) (record {
      number = number;
      order_count = order_count;
      unit = j;
    } ∷ l) l) (outputs_below-in k es) ∙ by_test (nat_lt j k)
  where
    by_test : (b : Bool)
        → cond b (record { number = number; order_count = order_count; unit = j } ∷ outputs_in (below k es))
        (outputs_in (below k es)) ≡ outputs_in (cond b ((j, Output number order_count) ∷ below k es) (below k es))
    by_test true = refl
    by_test false = refl
outputs_below-in k ((j, Called call) ∷ es) = outputs_below-in k es ∙ by_test (nat_lt j k)
  where
    by_test : (b : Bool) → outputs_in (below k es) ≡ outputs_in (cond b ((j, Called call) ∷ below k es) (below k es))
    by_test true = refl
    by_test false = refl

pub outputs_of_unit-in : (k : ℕ) (es : List (ℕ × Event)) → outputs_of_unit k (outputs_in es) ≡ outputs_in (of_unit k es)
outputs_of_unit-in k [] = refl
outputs_of_unit-in k ((j, Output number order_count) ∷ es) =
    ap (λ (l : List OutputPicture). cond (nat_eq j k) (record {
      number = number;
      order_count = order_count;
      unit = j;
    } ∷ l) l) (outputs_of_unit-in k es) ∙ by_test (nat_eq j k)
  where
    by_test : (b : Bool)
        → cond b (record {
          number = number;
          order_count = order_count;
          unit = j;
        } ∷ outputs_in (of_unit k es)) (outputs_in (of_unit k es)) ≡ outputs_in
        (cond b ((j, Output number order_count) ∷ of_unit k es) (of_unit k es))
    by_test true = refl
    by_test false = refl
outputs_of_unit-in k ((j, Called call) ∷ es) = outputs_of_unit-in k es ∙ by_test (nat_eq j k)
  where
    by_test : (b : Bool)
        → outputs_in (of_unit k es) ≡ outputs_in (cond b ((j, Called call) ∷ of_unit k es) (of_unit k es))
    by_test true = refl
    by_test false = refl

-- what is below the unit after the first ones is what these have done
pub below-cut : (front back : List Meaning) → stop front ≡ None
    → below (length front) (events (front ++ back)) ≡ walk_events (stream front)
below-cut front back none =
    let k = length front in
    let rest = events_from (standing (stream front)) k back in
    let first : AllBelow k (walk_events (stream front)) =
    subst (λ (n : ℕ). AllBelow n (walk_events (stream front))) (zero-add k)
    (stream-below 0 nothing_yet front none tt) in
    ap (below k) (events-cut front back none)
    ∙ filter-append (λ e. nat_lt e.0 k) (walk_events (stream front)) rest
    ∙ ap (λ l. l ++ below k rest) (below-all k (walk_events (stream front)) first)
    ∙ ap (λ l. walk_events (stream front) ++ l)
    (below-none k rest (events_from-from k k (standing (stream front)) back (omega arith)))
    ∙ append-nil (walk_events (stream front))

-- what is at the unit after the first ones is what that unit does
pub of_unit-cut : (front : List Meaning) (x : Meaning) (back : List Meaning) → stop front ≡ None
    → of_unit (length front) (events (front ++ x ∷ back)) ≡ at_unit (length front)
    (unit_part x (standing (stream front))).events
of_unit-cut front x back none =
    let k = length front in
    let s = standing (stream front) in
    let part = unit_part x s in
    let rest = cond (is_some (refusal_at x s)) [] (events_from part.next (k + 1) back) in
    let first : AllBelow k (walk_events (stream front)) =
    subst (λ (n : ℕ). AllBelow n (walk_events (stream front))) (zero-add k)
    (stream-below 0 nothing_yet front none tt) in
    ap (of_unit k) (events-cut front (x ∷ back) none)
    ∙ filter-append (λ e. nat_eq e.0 k) (walk_events (stream front)) (at_unit k part.events ++ rest)
    ∙ ap (λ l. l ++ of_unit k (at_unit k part.events ++ rest)) (of_unit-below k (walk_events (stream front)) first)
    ∙ filter-append (λ e. nat_eq e.0 k) (at_unit k part.events) rest
    ∙ ap (λ l. l ++ of_unit k rest) (of_unit-at k part.events)
    ∙ ap (λ l. at_unit k part.events ++ l)
    (of_unit-behind k rest
    (behind (is_some (refusal_at x s)) (events_from-from (k + 1) (k + 1) part.next back (omega arith))))
    ∙ append-nil (at_unit k part.events)
  where
    behind : (b : Bool)
        → AllFrom (length front + 1)
        (events_from (unit_part x (standing (stream front))).next (length front + 1) back)
        → AllFrom (length front + 1)
        (cond b [] (events_from (unit_part x (standing (stream front))).next (length front + 1) back))
    behind true h = tt
    behind false h = h

pub calls_in-append : (xs ys : List (ℕ × Event)) → calls_in (xs ++ ys) ≡ calls_in xs ++ calls_in ys
calls_in-append xs ys = flat_map-append (λ e. call_at e.0 e.1) xs ys

pub outputs_in-append : (xs ys : List (ℕ × Event)) → outputs_in (xs ++ ys) ≡ outputs_in xs ++ outputs_in ys
outputs_in-append xs ys = flat_map-append (λ e. output_at e.0 e.1) xs ys

pub calls-cut : (front back : List Meaning) → stop front ≡ None
    → calls (front ++ back) ≡ calls_in (walk_events (stream front))
    ++ calls_in (events_from (standing (stream front)) (length front) back)
calls-cut front back none = ap calls_in (events-cut front back none)
    ∙ calls_in-append (walk_events (stream front)) (events_from (standing (stream front)) (length front) back)

pub outputs-cut : (front back : List Meaning) → stop front ≡ None
    → outputs (front ++ back) ≡ outputs_in (walk_events (stream front))
    ++ outputs_in (events_from (standing (stream front)) (length front) back)
outputs-cut front back none = ap outputs_in (events-cut front back none)
    ∙ outputs_in-append (walk_events (stream front)) (events_from (standing (stream front)) (length front) back)

pub calls-before : (front back : List Meaning) → stop front ≡ None
    → calls_below (length front) (calls (front ++ back)) ≡ calls_in (walk_events (stream front))
calls-before front back none = calls_below-in (length front) (events (front ++ back))
    ∙ ap calls_in (below-cut front back none)

pub outputs-before : (front back : List Meaning) → stop front ≡ None
    → outputs_below (length front) (outputs (front ++ back)) ≡ outputs_in (walk_events (stream front))
outputs-before front back none = outputs_below-in (length front) (events (front ++ back))
    ∙ ap outputs_in (below-cut front back none)

pub calls-at : (front : List Meaning) (x : Meaning) (back : List Meaning) → stop front ≡ None
    → calls_of_unit (length front) (calls (front ++ x ∷ back)) ≡ calls_in
    (at_unit (length front) (unit_part x (standing (stream front))).events)
calls-at front x back none = calls_of_unit-in (length front) (events (front ++ x ∷ back))
    ∙ ap calls_in (of_unit-cut front x back none)

pub outputs-at : (front : List Meaning) (x : Meaning) (back : List Meaning) → stop front ≡ None
    → outputs_of_unit (length front) (outputs (front ++ x ∷ back)) ≡ outputs_in
    (at_unit (length front) (unit_part x (standing (stream front))).events)
outputs-at front x back none = outputs_of_unit-in (length front) (events (front ++ x ∷ back))
    ∙ ap outputs_in (of_unit-cut front x back none)
