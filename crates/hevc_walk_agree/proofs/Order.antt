-- Calls and outputs are in the order of their units.
use Rattle.std.proofs.Common.{◌≡◌, ⊎_elim, ℕ, ◌+◌, ◌<◌, ◌≤◌, Bool, true, false, cond, List, [], ◌∷◌}
use Rattle.std.proofs.Common.{◌++◌, filter, refl, sym, ◌∙◌, ap, subst, append_assoc, append-nil}
use Rattle.std.proofs.Common.{arith, is_some}
use Rattle.std.specs.Prelude.{nat_lt, nat_eq}
use Rattle.std.proofs.lemmas.Bool.{cases_order}
use Rattle.std.proofs.lemmas.Bool.Decides.{nat_tests}
use Rattle.std.proofs.lemmas.List.Elements.{filter-append}
use Rattle.hevc_walk.specs.Meanings.{Meaning}
use Rattle.hevc_walk.specs.Walk.{Event, Called, Output, at_unit}
use Rattle.hevc_walk.specs.Results.{OutputPicture, events, calls, outputs, calls_in, outputs_in}
use Rattle.hevc_walk.specs.Results.{calls_below, calls_of_unit, calls_above, outputs_below}
use Rattle.hevc_walk.specs.Results.{outputs_of_unit, outputs_above}
use Rattle.hevc_walk_units.specs.Units as units
use Rattle.hevc_walk_units.specs.Units.{Standing, unit_part, refusal_at, closing_part, events_from}
use Rattle.hevc_walk_agree.proofs.Joined.{events-same}
use Rattle.hevc_walk_agree.proofs.Cuts.{AllBelow, AllFrom, AllBelow-append, AllBelow-at}
use Rattle.hevc_walk_agree.proofs.Cuts.{AllFrom-append, AllFrom-at, events_from-from, below}
use Rattle.hevc_walk_agree.proofs.Cuts.{of_unit, below-all, below-none, of_unit-below}
use Rattle.hevc_walk_agree.proofs.Cuts.{of_unit-behind, of_unit-at, calls_in-append}
use Rattle.hevc_walk_agree.proofs.Cuts.{outputs_in-append, calls_below-in, calls_of_unit-in}
use Rattle.hevc_walk_agree.proofs.Cuts.{outputs_below-in, outputs_of_unit-in}

abbrev above : ℕ → List (ℕ × Event) → List (ℕ × Event)
above k es = filter (λ e. nat_lt k e.0) es

is_above : (k j : ℕ) → k < j → nat_lt k j ≡ true
is_above k j h = grind (arith, nat_tests)

not_above : (k j : ℕ) → j ≤ k → nat_lt k j ≡ false
not_above k j h = grind (arith, nat_tests)

above-all : (k : ℕ) (es : List (ℕ × Event)) → AllFrom (k + 1) es → above k es ≡ es
above-all k [] h = refl
above-all k (e ∷ es) h =
    ap (λ (b : Bool). cond b (e ∷ above k es) (above k es))
    (is_above k e.0 (let g = h.0 in omega (arith, g))) ∙ ap (λ l. e ∷ l) (above-all k es h.1)

above-none : (k : ℕ) (es : List (ℕ × Event)) → AllBelow (k + 1) es → above k es ≡ []
above-none k [] h = refl
above-none k (e ∷ es) h =
    ap (λ (b : Bool). cond b (e ∷ above k es) (above k es))
    (not_above k e.0 (let g = h.0 in omega (arith, g))) ∙ above-none k es h.1

AllFrom-less : (k j : ℕ) (es : List (ℕ × Event)) → k ≤ j → AllFrom j es → AllFrom k es
AllFrom-less k j [] h f = tt
AllFrom-less k j (e ∷ es) h f = (let g = f.0 in omega (arith, h, g), AllFrom-less k j es h f.1)

AllBelow-next : (k : ℕ) (es : List (ℕ × Event)) → AllBelow k es → AllBelow (k + 1) es
AllBelow-next k [] f = tt
AllBelow-next k (e ∷ es) f = (let g = f.0 in omega (arith, g), AllBelow-next k es f.1)

-- some events in parts: those below k, those at k, and those above
record Parts (k : ℕ) (es : List (ℕ × Event)) : Type 0 where
  front : List (ℕ × Event)
  here : List Event
  rest : List (ℕ × Event)
  whole : es ≡ (front ++ at_unit k here) ++ rest
  front_below : AllBelow k front
  rest_above : AllFrom (k + 1) rest

parts_above : (k : ℕ) (es : List (ℕ × Event)) → AllFrom (k + 1) es → Parts k es
parts_above k es h = record { front = []; here = []; rest = es; whole = refl; front_below = tt; rest_above = h }

parts_at : (k : ℕ) (es : List Event) (more : List (ℕ × Event)) → AllFrom (k + 1) more → Parts k (at_unit k es ++ more)
parts_at k es more h = record { front = []; here = es; rest = more; whole = refl; front_below = tt; rest_above = h }

parts_below : (k j : ℕ) (es : List Event) (more : List (ℕ × Event)) → j < k → Parts k more
    → Parts k (at_unit j es ++ more)
parts_below k j es more h m = record {
  front = at_unit j es ++ m.front;
  here = m.here;
  rest = m.rest;
  whole = ap (λ l. at_unit j es ++ l) m.whole
      ∙ sym (append_assoc (at_unit j es) (m.front ++ at_unit k m.here) m.rest)
      ∙ ap (λ l. l ++ m.rest) (sym (append_assoc (at_unit j es) m.front (at_unit k m.here)));
  front_below = AllBelow-append k (at_unit j es) m.front (AllBelow-at k j es h) m.front_below;
  rest_above = m.rest_above;
}

-- the events of one unit, and those of the units after it
step-parts : (k j : ℕ) (es : List Event) (more : List (ℕ × Event)) → AllFrom (j + 1) more → Parts k more
    → Parts k (at_unit j es ++ more)
step-parts k j es more from m = ⊎_elim
    (λ is. subst (λ (n : ℕ). AllFrom (n + 1) more → Parts k (at_unit n es ++ more)) (sym is) (parts_at k es more) from)
    (λ h. ⊎_elim (λ (l : j < k). parts_below k j es more l m)
    (λ (g : k < j). parts_above k (at_unit j es ++ more)
    (AllFrom-append (k + 1) (at_unit j es) more (AllFrom-at (k + 1) j es (omega (arith, g)))
    (AllFrom-less (k + 1) (j + 1) more (omega (arith, g)) from))) h)
    (cases_order j k)

none-parts : (k : ℕ) → Parts k []
none-parts k = parts_above k [] tt

events_from-parts : (k j : ℕ) (s : Standing) (us : List Meaning) → Parts k (events_from s j us)
events_from-parts k j s [] =
    subst (λ l. Parts k l) (append-nil (at_unit j (closing_part s).events))
    (step-parts k j (closing_part s).events [] tt (none-parts k))
events_from-parts k j s (u ∷ us) =
    by_refusal (is_some (refusal_at u s)) (events_from-parts k (j + 1) (unit_part u s).next us)
  where
    by_refusal : (b : Bool) → Parts k (events_from (unit_part u s).next (j + 1) us)
        → Parts k (at_unit j (unit_part u s).events ++ cond b [] (events_from (unit_part u s).next (j + 1) us))
    by_refusal true m = step-parts k j (unit_part u s).events [] tt (none-parts k)
    by_refusal false m = step-parts k j (unit_part u s).events (events_from (unit_part u s).next (j + 1) us)
        (events_from-from (j + 1) (j + 1) (unit_part u s).next us (omega arith)) m

three : (k : ℕ) (test : ℕ → Bool) (front here rest : List (ℕ × Event))
    → filter (λ e. test e.0) ((front ++ here) ++ rest) ≡ (filter (λ e. test e.0) front ++ filter
    (λ e. test e.0) here) ++ filter (λ e. test e.0) rest
three k test front here rest = filter-append (λ e. test e.0) (front ++ here) rest
    ∙ ap (λ l. l ++ filter (λ e. test e.0) rest) (filter-append (λ e. test e.0) front here)

below-parts : (k : ℕ) (front : List (ℕ × Event)) (here : List Event) (rest : List (ℕ × Event))
    → AllBelow k front → AllFrom (k + 1) rest → below k ((front ++ at_unit k here) ++ rest) ≡ front
below-parts k front here rest h g =
    three k (λ n. nat_lt n k) front (at_unit k here) rest
    ∙ ap (λ l. (l ++ below k (at_unit k here)) ++ below k rest) (below-all k front h)
    ∙ ap (λ l. (front ++ l) ++ below k rest) (below-none k (at_unit k here) (AllFrom-at k k here (omega arith)))
    ∙ ap (λ l. (front ++ []) ++ l) (below-none k rest (AllFrom-less k (k + 1) rest (omega arith) g))
    ∙ append-nil (front ++ []) ∙ append-nil front

of_unit-parts : (k : ℕ) (front : List (ℕ × Event)) (here : List Event) (rest : List (ℕ × Event))
    → AllBelow k front → AllFrom (k + 1) rest → of_unit k ((front ++ at_unit k here) ++ rest) ≡ at_unit k here
of_unit-parts k front here rest h g =
    three k (λ n. nat_eq n k) front (at_unit k here) rest
    ∙ ap (λ l. (l ++ of_unit k (at_unit k here)) ++ of_unit k rest) (of_unit-below k front h)
    ∙ ap (λ l. l ++ of_unit k rest) (of_unit-at k here)
    ∙ ap (λ l. at_unit k here ++ l) (of_unit-behind k rest g)
    ∙ append-nil (at_unit k here)

above-parts : (k : ℕ) (front : List (ℕ × Event)) (here : List Event) (rest : List (ℕ × Event))
    → AllBelow k front → AllFrom (k + 1) rest → above k ((front ++ at_unit k here) ++ rest) ≡ rest
above-parts k front here rest h g =
    three k (λ n. nat_lt k n) front (at_unit k here) rest
    ∙ ap (λ l. (l ++ above k (at_unit k here)) ++ above k rest) (above-none k front (AllBelow-next k front h))
    ∙ ap (λ l. l ++ above k rest) (above-none k (at_unit k here) (AllBelow-at (k + 1) k here (omega arith)))
    ∙ above-all k rest g

parted : (k : ℕ) (es : List (ℕ × Event)) → Parts k es → es ≡ below k es ++ of_unit k es ++ above k es
parted k es m =
    subst (λ l. l ≡ below k l ++ of_unit k l ++ above k l) (sym m.whole)
    (ap (λ l. (l ++ at_unit k m.here) ++ m.rest) (sym (below-parts k m.front m.here m.rest m.front_below m.rest_above))
    ∙ ap (λ l. (below k all ++ l) ++ m.rest) (sym (of_unit-parts k m.front m.here m.rest m.front_below m.rest_above))
    ∙ ap (λ l. (below k all ++ of_unit k all) ++ l)
    (sym (above-parts k m.front m.here m.rest m.front_below m.rest_above)))
  where
    all : List (ℕ × Event)
    all = (m.front ++ at_unit k m.here) ++ m.rest

pub events-parted : (us : List Meaning) (k : ℕ) → events us ≡ below k (events us) ++ of_unit k (events us)
    ++ above k (events us)
events-parted us k =
    parted k (events us) (subst (λ l. Parts k l) (events-same us) (events_from-parts k 0 units.at_first us))

calls_above-in : (k : ℕ) (es : List (ℕ × Event)) → calls_above k (calls_in es) ≡ calls_in (above k es)
calls_above-in k [] = refl
calls_above-in k ((j, Called call) ∷ es) =
    ap (λ l. cond (nat_lt k j) ((j, call) ∷ l) l) (calls_above-in k es) ∙ by_test (nat_lt k j)
  where
    by_test : (b : Bool)
        → cond b ((j, call) ∷ calls_in (above k es)) (calls_in (above k es)) ≡ calls_in
        (cond b ((j, Called call) ∷ above k es) (above k es))
    by_test true = refl
    by_test false = refl
calls_above-in k ((j, Output number order_count) ∷ es) = calls_above-in k es ∙ by_test (nat_lt k j)
  where
    by_test : (b : Bool)
        → calls_in (above k es) ≡ calls_in (cond b ((j, Output number order_count) ∷ above k es) (above k es))
    by_test true = refl
    by_test false = refl

outputs_above-in : (k : ℕ) (es : List (ℕ × Event)) → outputs_above k (outputs_in es) ≡ outputs_in (above k es)
outputs_above-in k [] = refl
outputs_above-in k ((j, Output number order_count) ∷ es) =
    ap (λ (l : List OutputPicture). cond (nat_lt k j) (record {
      number = number;
      order_count = order_count;
      unit = j;
    } ∷ l) l) (outputs_above-in k es) ∙ by_test (nat_lt k j)
  where
    by_test : (b : Bool)
        → cond b (record { number = number; order_count = order_count; unit = j } ∷ outputs_in (above k es))
        (outputs_in (above k es)) ≡ outputs_in (cond b ((j, Output number order_count) ∷ above k es) (above k es))
    by_test true = refl
    by_test false = refl
outputs_above-in k ((j, Called call) ∷ es) = outputs_above-in k es ∙ by_test (nat_lt k j)
  where
    by_test : (b : Bool) → outputs_in (above k es) ≡ outputs_in (cond b ((j, Called call) ∷ above k es) (above k es))
    by_test true = refl
    by_test false = refl

pub calls-parted : (us : List Meaning) (k : ℕ)
    → calls us ≡ calls_below k (calls us) ++ calls_of_unit k (calls us) ++ calls_above k (calls us)
calls-parted us k =
    let es = events us in
    ap calls_in (events-parted us k)
    ∙ calls_in-append (below k es ++ of_unit k es) (above k es)
    ∙ ap (λ l. l ++ calls_in (above k es)) (calls_in-append (below k es) (of_unit k es))
    ∙ ap (λ l. (l ++ calls_in (of_unit k es)) ++ calls_in (above k es)) (sym (calls_below-in k es))
    ∙ ap (λ l. (calls_below k (calls us) ++ l) ++ calls_in (above k es)) (sym (calls_of_unit-in k es))
    ∙ ap (λ l. (calls_below k (calls us) ++ calls_of_unit k (calls us)) ++ l) (sym (calls_above-in k es))

pub outputs-parted : (us : List Meaning) (k : ℕ)
    → outputs us ≡ outputs_below k (outputs us) ++ outputs_of_unit k (outputs us) ++ outputs_above k (outputs us)
outputs-parted us k =
    let es = events us in
    ap outputs_in (events-parted us k)
    ∙ outputs_in-append (below k es ++ of_unit k es) (above k es)
    ∙ ap (λ l. l ++ outputs_in (above k es)) (outputs_in-append (below k es) (of_unit k es))
    ∙ ap (λ l. (l ++ outputs_in (of_unit k es)) ++ outputs_in (above k es)) (sym (outputs_below-in k es))
    ∙ ap (λ l. (outputs_below k (outputs us) ++ l) ++ outputs_in (above k es)) (sym (outputs_of_unit-in k es))
    ∙ ap (λ l. (outputs_below k (outputs us) ++ outputs_of_unit k (outputs us)) ++ l) (sym (outputs_above-in k es))
