-- What all units after the point ask, and the verdict on them.
use Rattle.std.proofs.Common.{◌≡◌, ℕ, ℤ, ◌+◌, Bool, true, false, not, cond, List, [], ◌∷◌, ◌++◌}
use Rattle.std.proofs.Common.{map, filter, refl, sym, ◌∙◌, ap, ap₂, subst, arith, Option, Some}
use Rattle.std.proofs.Common.{None, is_some, Result, Ok}
use Rattle.std.specs.Prelude.{nat_le, ◌-◌}
use Rattle.std.proofs.lemmas.Bool.Decides.{nat_tests}
use Rattle.std.proofs.lemmas.List.Elements.{filter-append}
use Rattle.hevc_walk.specs.Meanings.{Meaning}
use Rattle.hevc_walk.specs.ReferenceSets.{RefPicSet}
use Rattle.hevc_walk.specs.ReferenceLists.{RefPicListEntry, CurrentPicture, DpbEntry}
use Rattle.hevc_walk.specs.Walk.{Call, NewSequence, NewPicture, BeginPicture, DecodeSlice}
use Rattle.hevc_walk.specs.Walk.{SubmitPicture, Event, Called, Output, at_unit}
use Rattle.hevc_walk.specs.Refusals.{Cause, Refusal}
use Rattle.hevc_walk.specs.Results.{OutputPicture, calls_in, outputs_in}
use Rattle.hevc_walk_units.specs.Units.{Standing, unit_part, refusal_at, is_full_at, is_full_now}
use Rattle.hevc_walk_units.specs.Units.{closing_part, events_from, verdict_from, refused_at}
use Rattle.hevc_walk_units.specs.Units.{full_or_cause}
use Rattle.hevc_walk_splice.specs.Splicing.{is_for, is_new_sequence, without_sequences, calls_for}
use Rattle.hevc_walk_splice.specs.Splicing.{outputs_for, numbered_member, numbered_set}
use Rattle.hevc_walk_splice.specs.Splicing.{numbered_entry, numbered_call, moved_call, moved_output}
use Rattle.hevc_walk_splice.specs.Splicing.{moved_back_call, moved_back_output}
use Rattle.hevc_walk_splice.proofs.Raise.{cond-over, raise_member, raise_set, raise_place, same-sets}
use Rattle.hevc_walk_splice.proofs.Parts.{numbered_event, raise_event}
use Rattle.hevc_walk_splice.proofs.Units.{raise_standing, SameCount, unit-follows, refusal-raised}
use Rattle.hevc_walk_splice.proofs.Units.{full_at-raised, full_now-raised, end-raised}

abbrev pub for_event : ℕ → Event → Bool
for_event n (Called call) = is_for n call
for_event n (Output number order_count) = nat_le n number

abbrev pub events_for : ℕ → List (ℕ × Event) → List (ℕ × Event)
events_for n es = filter (λ e. for_event n e.1) es

abbrev less_member : ℕ → Option ℕ → Option ℕ
less_member n = numbered_member (λ m. m - n)

abbrev less_place : ℕ → Option RefPicListEntry → Option RefPicListEntry
less_place n = numbered_entry (λ m. m - n)

abbrev less_set : ℕ → RefPicSet → RefPicSet
less_set n = numbered_set (λ m. m - n)

abbrev less_event : ℕ → Event → Event
less_event n = numbered_event (λ m. m - n)

-- an event with f m in place of a picture's number m, and its unit j moved to g j
abbrev placed : (ℕ → ℕ) → (ℕ → ℕ) → ℕ × Event → ℕ × Event
placed f g e = (g e.0, numbered_event f e.1)

-- an event of the whole, and the same in the list that begins at the point
pub record IsMoved (n v k : ℕ) (x y : ℕ × Event) : Type 0 where
  pub offset : ℕ
  pub place : x.0 ≡ v + offset
  pub event : x.1 ≡ raise_event n y.1
  pub now : y.0 ≡ k + offset

abbrev pub AllMoved : ℕ → ℕ → ℕ → List (ℕ × Event) → List (ℕ × Event) → Type 0
AllMoved n v k [] [] = Unit {0}
AllMoved n v k [] (y ∷ ys) = ⊥
AllMoved n v k (x ∷ xs) [] = ⊥
AllMoved n v k (x ∷ xs) (y ∷ ys) = IsMoved n v k x y × AllMoved n v k xs ys

pub moved-append : (n v k : ℕ) (xs xs' ys ys' : List (ℕ × Event)) → AllMoved n v k xs ys
    → AllMoved n v k xs' ys' → AllMoved n v k (xs ++ xs') (ys ++ ys')
moved-append n v k [] xs' [] ys' h g = g
moved-append n v k [] xs' (y ∷ ys) ys' h g = absurd h
moved-append n v k (x ∷ xs) xs' [] ys' h g = absurd h
moved-append n v k (x ∷ xs) xs' (y ∷ ys) ys' h g = (h.0, moved-append n v k xs xs' ys ys' h.1 g)

pub moved-same : (n v k : ℕ) (xs xs' ys ys' : List (ℕ × Event)) → xs ≡ xs' → ys ≡ ys'
    → AllMoved n v k xs' ys' → AllMoved n v k xs ys
moved-same n v k xs xs' ys ys' is is' h =
    subst (λ l. AllMoved n v k l ys) (sym is) (subst (λ l. AllMoved n v k xs' l) (sym is') h)

less_raised : (n m : ℕ) → (n + m) - n ≡ m
less_raised n m = omega arith

members-back : (n : ℕ) (ms : List (Option ℕ)) → map (less_member n) (map (raise_member n) ms) ≡ ms
members-back n [] = refl
members-back n (None ∷ ms) = ap (λ l. None ∷ l) (members-back n ms)
members-back n (Some m ∷ ms) = ap₂ (λ (k : ℕ) l. Some k ∷ l) (less_raised n m) (members-back n ms)

places-back : (n : ℕ) (ps : List (Option RefPicListEntry)) → map (less_place n) (map (raise_place n) ps) ≡ ps
places-back n [] = refl
places-back n (None ∷ ps) = ap (λ l. None ∷ l) (places-back n ps)
places-back n (Some CurrentPicture ∷ ps) = ap (λ l. Some CurrentPicture ∷ l) (places-back n ps)
places-back n (Some (DpbEntry m) ∷ ps) = ap₂ (λ (k : ℕ) l. Some (DpbEntry k) ∷ l) (less_raised n m) (places-back n ps)

set-back : (n : ℕ) (s : RefPicSet) → less_set n (raise_set n s) ≡ s
set-back n s = same-sets _ _ (members-back n s.st_curr_before) (members-back n s.st_curr_after)
    (members-back n s.st_foll) (members-back n s.lt_curr) (members-back n s.lt_foll)

event-back : (n : ℕ) (e : Event) → less_event n (raise_event n e) ≡ e
event-back n (Called (NewSequence info)) = refl
event-back n (Called (NewPicture number t c o s)) = ap (λ (m : ℕ). Called (NewPicture m t c o s)) (less_raised n number)
event-back n (Called (BeginPicture number set)) =
    ap₂ (λ (m : ℕ) (x : RefPicSet). Called (BeginPicture m x)) (less_raised n number) (set-back n set)
event-back n (Called (DecodeSlice number address bytes list0 list1)) =
    ap (λ (m : ℕ). Called (DecodeSlice m address bytes (map (less_place n) (map (raise_place n) list0))
    (map (less_place n) (map (raise_place n) list1)))) (less_raised n number)
    ∙ ap₂ (λ x y. Called (DecodeSlice number address bytes x y)) (places-back n list0) (places-back n list1)
event-back n (Called (SubmitPicture number)) = ap (λ (m : ℕ). Called (SubmitPicture m)) (less_raised n number)
event-back n (Output number order_count) = ap (λ (m : ℕ). Output m order_count) (less_raised n number)

at_least : (n m : ℕ) → nat_le n (n + m) ≡ nat_le 0 m
at_least n m = grind (arith, nat_tests)

for-raised : (n : ℕ) (e : Event) → for_event n (raise_event n e) ≡ for_event 0 e
for-raised n (Called (NewSequence info)) = refl
for-raised n (Called (NewPicture number t c o s)) = at_least n number
for-raised n (Called (BeginPicture number set)) = at_least n number
for-raised n (Called (DecodeSlice number address bytes list0 list1)) = at_least n number
for-raised n (Called (SubmitPicture number)) = at_least n number
for-raised n (Output number order_count) = at_least n number

pub for-append : (n : ℕ) (xs ys : List (ℕ × Event)) → events_for n (xs ++ ys) ≡ events_for n xs ++ events_for n ys
for-append n xs ys = filter-append (λ e. for_event n e.1) xs ys

pub moved-at : (n v k d : ℕ) (es : List Event)
    → AllMoved n v k (events_for n (at_unit (v + d) (map (raise_event n) es))) (events_for 0 (at_unit (k + d) es))
moved-at n v k d [] = tt
moved-at n v k d (e ∷ es) =
    subst (λ (b : Bool). AllMoved n v k
    (cond b ((v + d, raise_event n e) ∷ events_for n (at_unit (v + d) (map (raise_event n) es)))
    (events_for n (at_unit (v + d) (map (raise_event n) es)))) (events_for 0 (at_unit (k + d) (e ∷ es))))
    (sym (for-raised n e))
    (by_test (for_event 0 e) (moved-at n v k d es))
  where
    by_test : (b : Bool)
        → AllMoved n v k (events_for n (at_unit (v + d) (map (raise_event n) es)))
        (events_for 0 (at_unit (k + d) es))
        → AllMoved n v k
        (cond b ((v + d, raise_event n e) ∷ events_for n (at_unit (v + d) (map (raise_event n) es)))
        (events_for n (at_unit (v + d) (map (raise_event n) es))))
        (cond b ((k + d, e) ∷ events_for 0 (at_unit (k + d) es)) (events_for 0 (at_unit (k + d) es)))
    by_test true h = (record { offset = d; place = refl; event = refl; now = refl }, h)
    by_test false h = h

-- what the units from the point on ask
pub moved-from : (n v k d : ℕ) (b : Bool) (x : Option ℤ) (t : Standing) (us : List Meaning) → SameCount x t
    → AllMoved n v k (events_for n (events_from (raise_standing n b x t) (v + d) us))
    (events_for 0 (events_from t (k + d) us))
moved-from n v k d b x t [] same =
    subst (λ l. AllMoved n v k (events_for n (at_unit (v + d) l))
    (events_for 0 (at_unit (k + d) (closing_part t).events))) (sym (end-raised n b x t))
    (moved-at n v k d (closing_part t).events)
moved-from n v k d b x t (u ∷ us) same =
    let f = unit-follows n b x u t same in
    let part = unit_part u t in
    let whole = unit_part u (raise_standing n b x t) in
    moved-same n v k _ _ _ _
    (for-append n (at_unit (v + d) whole.events)
    (cond (is_some (refusal_at u (raise_standing n b x t))) [] (events_from whole.next (v + d + 1) us))
    ∙ ap₂ (λ l (r : Option Cause). events_for n (at_unit (v + d) l)
    ++ events_for n (cond (is_some r) [] (events_from whole.next (v + d + 1) us))) f.events
    (refusal-raised n b x u t same)
    ∙ ap₂ (λ (s : Standing) (j : ℕ). events_for n (at_unit (v + d) (map (raise_event n) part.events))
    ++ events_for n (cond (is_some (refusal_at u t)) [] (events_from s j us))) f.next (next v d))
    (for-append 0 (at_unit (k + d) part.events)
    (cond (is_some (refusal_at u t)) [] (events_from part.next (k + d + 1) us))
    ∙ ap (λ (j : ℕ). events_for 0 (at_unit (k + d) part.events)
    ++ events_for 0 (cond (is_some (refusal_at u t)) [] (events_from part.next j us))) (next k d))
    (moved-append n v k _ _ _ _ (moved-at n v k d part.events)
    (by_refusal f.flag f.count (is_some (refusal_at u t))
    (moved-from n v k (d + 1) f.flag f.count part.next us f.same)))
  where
    next : (i j : ℕ) → i + j + 1 ≡ i + (j + 1)
    next i j = omega arith

    by_refusal : (c : Bool) (y : Option ℤ) (r : Bool)
        → AllMoved n v k
        (events_for n (events_from (raise_standing n c y (unit_part u t).next) (v + (d + 1)) us))
        (events_for 0 (events_from (unit_part u t).next (k + (d + 1)) us))
        → AllMoved n v k
        (events_for n
        (cond r [] (events_from (raise_standing n c y (unit_part u t).next) (v + (d + 1)) us)))
        (events_for 0 (cond r [] (events_from (unit_part u t).next (k + (d + 1)) us)))
    by_refusal c y true h = tt
    by_refusal c y false h = h

-- one list from the other
moved-less : (n v k : ℕ) (xs ys : List (ℕ × Event)) → AllMoved n v k xs ys
    → map (placed (λ m. m - n) (λ j. j - v + k)) xs ≡ ys
moved-less n v k [] [] h = refl
moved-less n v k [] (y ∷ ys) h = absurd h
moved-less n v k (x ∷ xs) [] h = absurd h
moved-less n v k (x ∷ xs) (y ∷ ys) h =
    ap₂ (λ e l. e ∷ l)
    (ap₂ (λ (j : ℕ) (e : Event). (j, e)) (let p = h.0.place in let q = h.0.now in omega (arith, p, q))
    (ap (less_event n) h.0.event ∙ event-back n y.1)) (moved-less n v k xs ys h.1)

moved-more : (n v k : ℕ) (xs ys : List (ℕ × Event)) → AllMoved n v k xs ys
    → xs ≡ map (placed (λ m. n + m) (λ j. j - k + v)) ys
moved-more n v k [] [] h = refl
moved-more n v k [] (y ∷ ys) h = absurd h
moved-more n v k (x ∷ xs) [] h = absurd h
moved-more n v k (x ∷ xs) (y ∷ ys) h =
    ap₂ (λ e l. e ∷ l)
    (ap₂ (λ (j : ℕ) (e : Event). (j, e)) (let p = h.0.place in let q = h.0.now in
    omega (arith, p, q)) h.0.event) (moved-more n v k xs ys h.1)

-- a verdict that is Ok goes on
pub record GoesOn (full : Bool) (cause : Option Cause) (later : Result ℕ Refusal) (m : ℕ) : Type 0 where
  pub not_full : full ≡ false
  pub none : cause ≡ None
  pub ok : later ≡ Ok m

pub goes_on : (j m : ℕ) (full : Bool) (cause : Option Cause) (later : Result ℕ Refusal)
    → refused_at j (full_or_cause full cause) later ≡ Ok m → GoesOn full cause later m
goes_on j m true cause later h = absurd (cc h)
goes_on j m false None later h = record { not_full = refl; none = refl; ok = h }
goes_on j m false (Some cause) later h = absurd (cc h)

pub verdict-ok : (j m : ℕ) (full : Bool) (cause : Option Cause) (later : Result ℕ Refusal) → full ≡ false
    → cause ≡ None → later ≡ Ok m → refused_at j (full_or_cause full cause) later ≡ Ok m
verdict-ok j m true cause later f c l = absurd (cc f)
verdict-ok j m false None later f c l = l
verdict-ok j m false (Some cause) later f c l = absurd (cc c)

abbrev ok_of : ℕ → Result ℕ Refusal
ok_of a = Ok a

ok-number : (a m : ℕ) → ok_of a ≡ ok_of m → a ≡ m
ok-number a m h = cc h

pub verdict-later : (n i j m : ℕ) (b : Bool) (x : Option ℤ) (t : Standing) (us : List Meaning)
    → SameCount x t → verdict_from (raise_standing n b x t) j us ≡ Ok m → verdict_from t i us ≡ Ok (m - n)
verdict-later n i j m b x t [] same h =
    let g = goes_on j m (is_full_now (raise_standing n b x t)) None (Ok (n + t.next.number)) h in
    verdict-ok i (m - n) (is_full_now t) None (Ok t.next.number) (sym (full_now-raised n b x t)
    ∙ g.not_full) refl
    (ap ok_of (sym (less_raised n t.next.number) ∙ ap (λ (a : ℕ). a - n) (ok-number (n + t.next.number) m g.ok)))
verdict-later n i j m b x t (u ∷ us) same h =
    let f = unit-follows n b x u t same in
    let whole = unit_part u (raise_standing n b x t) in
    let g = goes_on j m (is_full_at u (raise_standing n b x t)) (refusal_at u (raise_standing n b x t))
    (verdict_from whole.next (j + 1) us) h in
    verdict-ok i (m - n) (is_full_at u t) (refusal_at u t) (verdict_from (unit_part u t).next (i + 1) us)
    (sym (full_at-raised n b x u t) ∙ g.not_full) (sym (refusal-raised n b x u t same) ∙ g.none)
    (verdict-later n (i + 1) (j + 1) m f.flag f.count (unit_part u t).next us f.same
    (subst (λ (s : Standing). verdict_from s (j + 1) us ≡ Ok m) f.next g.ok))

-- calls and outputs among the events
cond-same : {X : Type 0} (b : Bool) (x : X) → cond b x x ≡ x
cond-same true x = refl
cond-same false x = refl

calls-for : (n : ℕ) (es : List (ℕ × Event)) → calls_in (events_for n es) ≡ calls_for n (calls_in es)
calls-for n [] = refl
calls-for n ((j, Called call) ∷ es) =
    sym (cond-over calls_in (is_for n call) ((j, Called call) ∷ events_for n es) (events_for n es))
    ∙ ap (λ l. cond (is_for n call) ((j, call) ∷ l) l) (calls-for n es)
calls-for n ((j, Output number order_count) ∷ es) =
    sym (cond-over calls_in (nat_le n number) ((j, Output number order_count) ∷ events_for n es)
    (events_for n es)) ∙ cond-same (nat_le n number) (calls_in (events_for n es)) ∙ calls-for n es

outputs-for : (n : ℕ) (es : List (ℕ × Event)) → outputs_in (events_for n es) ≡ outputs_for n (outputs_in es)
outputs-for n [] = refl
outputs-for n ((j, Called call) ∷ es) =
    sym (cond-over outputs_in (is_for n call) ((j, Called call) ∷ events_for n es) (events_for n es))
    ∙ cond-same (is_for n call) (outputs_in (events_for n es)) ∙ outputs-for n es
outputs-for n ((j, Output number order_count) ∷ es) =
    sym (cond-over outputs_in (nat_le n number) ((j, Output number order_count) ∷ events_for n es)
    (events_for n es))
    ∙ ap (λ (l : List OutputPicture). cond (nat_le n number) (record {
      number = number;
      order_count = order_count;
      unit = j;
    } ∷ l) l) (outputs-for n es)

calls-placed : (f g : ℕ → ℕ) (es : List (ℕ × Event))
    → calls_in (map (placed f g) es) ≡ map (λ c. (g c.0, numbered_call f c.1)) (calls_in es)
calls-placed f g [] = refl
calls-placed f g ((j, Called call) ∷ es) = ap (λ l. (g j, numbered_call f call) ∷ l) (calls-placed f g es)
calls-placed f g ((j, Output number order_count) ∷ es) = calls-placed f g es

outputs-placed : (f g : ℕ → ℕ) (es : List (ℕ × Event))
    → outputs_in (map (placed f g) es) ≡ map
    (λ (o : OutputPicture). record o { number = f o.number; unit = g o.unit }) (outputs_in es)
outputs-placed f g [] = refl
outputs-placed f g ((j, Called call) ∷ es) = outputs-placed f g es
outputs-placed f g ((j, Output number order_count) ∷ es) =
    ap (λ (l : List OutputPicture). record { number = f number; order_count = order_count; unit = g j } ∷ l)
    (outputs-placed f g es)

-- all outputs, and all calls but those of a sequence, are for pictures from number 0 on
least : (j : ℕ) → nat_le 0 j ≡ true
least j = grind (arith, nat_tests)

all-outputs : (os : List OutputPicture) → outputs_for 0 os ≡ os
all-outputs [] = refl
all-outputs (o ∷ os) = ap₂ (λ (b : Bool) (l : List OutputPicture). cond b (o ∷ l) l) (least o.number) (all-outputs os)

all-calls : (cs : List (ℕ × Call)) → calls_for 0 cs ≡ without_sequences cs
all-calls [] = refl
all-calls (c ∷ cs) = ap₂ (λ (b : Bool) l. cond b (c ∷ l) l) (any c.1) (all-calls cs)
  where
    any : (d : Call) → is_for 0 d ≡ not (is_new_sequence d)
    any (NewSequence info) = refl
    any (NewPicture number t o p s) = least number
    any (BeginPicture number set) = least number
    any (DecodeSlice number address bytes list0 list1) = least number
    any (SubmitPicture number) = least number

-- calls and outputs of one list from those of the other
pub calls-less : (n v k : ℕ) (whole now : List (ℕ × Event))
    → AllMoved n v k (events_for n whole) (events_for 0 now)
    → without_sequences (calls_in now) ≡ map (moved_call n v k) (calls_for n (calls_in whole))
calls-less n v k whole now h =
    sym (calls-for 0 now ∙ all-calls (calls_in now))
    ∙ ap calls_in (sym (moved-less n v k (events_for n whole) (events_for 0 now) h))
    ∙ calls-placed (λ m. m - n) (λ j. j - v + k) (events_for n whole)
    ∙ ap (map (moved_call n v k)) (calls-for n whole)

pub outputs-less : (n v k : ℕ) (whole now : List (ℕ × Event))
    → AllMoved n v k (events_for n whole) (events_for 0 now)
    → outputs_in now ≡ map (moved_output n v k) (outputs_for n (outputs_in whole))
outputs-less n v k whole now h =
    sym (outputs-for 0 now ∙ all-outputs (outputs_in now))
    ∙ ap outputs_in (sym (moved-less n v k (events_for n whole) (events_for 0 now) h))
    ∙ outputs-placed (λ m. m - n) (λ j. j - v + k) (events_for n whole)
    ∙ ap (map (moved_output n v k)) (outputs-for n whole)

pub calls-more : (n v k : ℕ) (whole now : List (ℕ × Event))
    → AllMoved n v k (events_for n whole) (events_for 0 now)
    → calls_for n (calls_in whole) ≡ map (moved_back_call n v k) (without_sequences (calls_in now))
calls-more n v k whole now h =
    sym (calls-for n whole)
    ∙ ap calls_in (moved-more n v k (events_for n whole) (events_for 0 now) h)
    ∙ calls-placed (λ m. n + m) (λ j. j - k + v) (events_for 0 now)
    ∙ ap (map (moved_back_call n v k)) (calls-for 0 now ∙ all-calls (calls_in now))

pub outputs-more : (n v k : ℕ) (whole now : List (ℕ × Event))
    → AllMoved n v k (events_for n whole) (events_for 0 now)
    → outputs_for n (outputs_in whole) ≡ map (moved_back_output n v k) (outputs_in now)
outputs-more n v k whole now h =
    sym (outputs-for n whole)
    ∙ ap outputs_in (moved-more n v k (events_for n whole) (events_for 0 now) h)
    ∙ outputs-placed (λ m. n + m) (λ j. j - k + v) (events_for 0 now)
    ∙ ap (map (moved_back_output n v k)) (outputs-for 0 now ∙ all-outputs (outputs_in now))
