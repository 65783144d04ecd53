-- A sequence as the walk goes over its pictures.
use Rattle.std.proofs.Common.{◌≡◌, ◌⊎◌, inl, inr, ⊎_elim, ℕ, ℤ, ◌+◌, ◌-◌, ◌^◌, min, ◌<◌, ◌≤◌, ◌<ℤ◌}
use Rattle.std.proofs.Common.{◌≤ℤ◌, Bool, true, false, not, cond, ◌&&◌, ◌||◌, List, [], ◌∷◌, ◌++◌}
use Rattle.std.proofs.Common.{length, map, filter, refl, sym, ◌∙◌, ap, subst, arith, Option, Some}
use Rattle.std.proofs.Common.{None, append_assoc, append-nil}
use Rattle.std.specs.Prelude.{int_lt, nat_lt, nat_le}
use Rattle.std.specs.List.{AllByRecursion as Each, list_any}
use Rattle.std.proofs.lemmas.Int.{ints}
use Rattle.std.proofs.lemmas.Bool.Decides.{nat_tests}
use Rattle.std.proofs.lemmas.List.{length-map}
use Rattle.std.proofs.lemmas.List.Elements.{filter-append}
use Rattle.hevc_walk.specs.Meanings.{Format, Limits}
use Rattle.hevc_walk.specs.Pictures.{Head, Picture}
use Rattle.hevc_walk.specs.Buffer.{Entry, Buffer, draining, in_output_order, after_output}
use Rattle.hevc_walk.specs.Buffer.{due_outputs, is_needed, needs_bumping, needs_additional_bumping}
use Rattle.hevc_walk.specs.ReferenceSets.{with_marks}
use Rattle.hevc_walk.specs.Walk.{Event, Part, ◌>>=◌, nothing, Store, output_by, finish}
use Rattle.hevc_walk.specs.Walk.{store_picture, change_format, begin_picture, is_decoded}
use Rattle.hevc_walk.specs.Walk.{picture_part, prepare, latest_head, store, store_before}
use Rattle.hevc_walk.specs.Walk.{first_store, reference_set_of, picture_events, decode_slices}
use Rattle.hevc_walk.specs.Walk.{at_unit, closing}
use Rattle.hevc_walk_fates.proofs.Accepted.{accepted_is}
use Rattle.hevc_walk_order.specs.Sequences.{is_for_output, begins}
use Rattle.hevc_walk_order.specs.DisplayOrder.{latency_pictures, picture_key, entries_before, needed_behind}
use Rattle.hevc_walk_order.proofs.Each.{each-append, each-right, each-weaker, each-both}
use Rattle.hevc_walk_order.proofs.Each.{each-filter, each-map, each-of_map, filter-all, filter-none}
use Rattle.hevc_walk_order.proofs.Each.{Pairs, pairs-right}
use Rattle.hevc_walk_order.proofs.Keys.{Key, sort, each-sort, Below, below-sort, Differ, at_least}
use Rattle.hevc_walk_order.proofs.Keys.{at_least-all, at_least-filter, has, without, left-moves}
use Rattle.hevc_walk_order.proofs.Keys.{each-moves, Waits, Ordered, waits-none, waits-fewer}
use Rattle.hevc_walk_order.proofs.Keys.{waits-more, waits-bump, waits-drain, at_least-waits}
use Rattle.hevc_walk_order.proofs.Waiting.{key, keys, keys-append, Aged, aged_key, aged, keys_of}
use Rattle.hevc_walk_order.proofs.Waiting.{waiting, older, stored_aged, aged-stored, stored_key}
use Rattle.hevc_walk_order.proofs.Waiting.{waiting-stored, keys-in_output_order, aged-after}
use Rattle.hevc_walk_order.proofs.Waiting.{waiting-after, late, too_many, is_due, rule-is}
use Rattle.hevc_walk_order.proofs.Waiting.{due-nothing, after-few, due_rest, due-front, due-each}
use Rattle.hevc_walk_order.proofs.Waiting.{due-quiet, each-due}
use Rattle.hevc_walk_order.proofs.Parts.{outs, outs-append, outs_in, outs_in-append, outs_in-at}
use Rattle.hevc_walk_order.proofs.Parts.{outs_in-slices, Gives, drain-gives, then-gives, stored}
use Rattle.hevc_walk_order.proofs.Parts.{stored_due, finish-skipped, finish-stored, change-same}
use Rattle.hevc_walk_order.proofs.Parts.{change-gives, begin-not, begin-within, kept, aged-kept}
use Rattle.hevc_walk_order.proofs.Parts.{kept_due, begin-starts, begin-discards, EachOf, OfHead}
use Rattle.hevc_walk_order.proofs.Parts.{each-picture}
use Rattle.hevc_walk_order.proofs.Heads.{IsHead, decoded, not_decoded}

-- the outputs whose numbers pass a test, and what is needed for output, once the latest picture has begun
abbrev pub passing : (ℕ → Bool) → List Key → List Key
passing test ks = filter (λ k. test k.0) ks

abbrev pub output : (ℕ → Bool) → Option (ℕ × Format) → List Picture → List Key
output test set ps = passing test (outs_in (picture_events set ps))

abbrev pub wait : Option (ℕ × Format) → List Picture → List Aged
wait set ps = aged (store set ps).buffer

abbrev pub Inside : (ℕ → Bool) → Key → Type 0
Inside test k = test k.0 ≡ true

abbrev pub Outside : (ℕ → Bool) → Key → Type 0
Outside test k = test k.0 ≡ false

pub passing-append : (test : ℕ → Bool) (xs ys : List Key) → passing test (xs ++ ys) ≡ passing test xs ++ passing test ys
passing-append test xs ys = filter-append (λ (k : Key). test k.0) xs ys

pub events-more : (set : Option (ℕ × Format)) (p : Picture) (before : List Picture)
    → outs_in (picture_events set (p ∷ before)) ≡ outs_in (picture_events set before)
    ++ outs (picture_part (latest_head before) p.head p.first (store set before)).events
events-more set p before =
    outs_in-append (picture_events set before ++ at_unit p.unit part.events) slices
    ∙ ap (λ (l : List Key). outs_in (picture_events set before ++ at_unit p.unit part.events) ++ l)
    (outs_in-slices p.head (reference_set_of set p before) p.slices)
    ∙ append-nil (outs_in (picture_events set before ++ at_unit p.unit part.events))
    ∙ outs_in-append (picture_events set before) (at_unit p.unit part.events)
    ∙ ap (λ (l : List Key). outs_in (picture_events set before) ++ l) (outs_in-at p.unit part.events)
  where
    part : Part Store
    part = picture_part (latest_head before) p.head p.first (store set before)

    slices : List (ℕ × Event)
    slices = decode_slices p.head (reference_set_of set p before) p.slices

pub output-more : (test : ℕ → Bool) (set : Option (ℕ × Format)) (p : Picture) (before : List Picture)
    → output test set (p ∷ before) ≡ output test set before
    ++ passing test (outs (picture_part (latest_head before) p.head p.first (store set before)).events)
output-more test set p before = ap (λ (l : List Key). passing test l) (events-more set p before)
    ∙ passing-append test (outs_in (picture_events set before))
    (outs (picture_part (latest_head before) p.head p.first (store set before)).events)

pub latest-of : (P : Key → Type 0) (ps : List Picture) → Each (λ p. P (picture_key p)) ps → OfHead P (latest_head ps)
latest-of P [] h = tt
latest-of P (p ∷ before) h = h.0

-- no output of another sequence is among those of this one
pub output-others : (test : ℕ → Bool) (set : Option (ℕ × Format)) (p : Picture) (before : List Picture)
    → OfHead (Outside test) (latest_head before) → Each (Outside test) (keys_of (wait set before))
    → (output test set (p ∷ before) ≡ output test set before) × Each (Outside test) (keys_of (wait set (p ∷ before)))
output-others test set p before latest h =
    let e : EachOf (Outside test) (picture_part (latest_head before) p.head p.first (store set before)) =
    each-picture (Outside test) (latest_head before) p.head p.first (store set before) latest h in (
      output-more test set p before ∙ ap (λ (l : List Key). output test set before ++ l)
          (filter-none
          (λ (k : Key). test k.0)
          (outs (picture_part (latest_head before) p.head p.first (store set before)).events) e.0)
          ∙ append-nil (output test set before),
      e.1,
    )

pub output-before : (test : ℕ → Bool) (set : Option (ℕ × Format)) (ps : List Picture)
    → Each (λ p. test p.number ≡ false) ps → (output test set ps ≡ []) × Each (Outside test) (keys_of (wait set ps))
output-before test None [] h = (refl, tt)
output-before test (Some set) [] h = (refl, tt)
output-before test set (p ∷ before) h =
    let ih = output-before test set before h.1 in
    let e = output-others test set p before (latest-of (Outside test) before h.1) ih.1 in
    (e.0 ∙ ih.0, e.1)

-- nothing is needed for output as a sequence begins
none-of : (ws : List Aged) → Each (λ k. ⊥) (keys_of ws) → ws ≡ []
none-of [] h = refl
none-of (w ∷ ws) h = absurd h.0

wait-first : (set : Option (ℕ × Format)) (p : Picture) → wait set (p ∷ []) ≡ []
wait-first None p = none-of (wait None (p ∷ [])) (each-picture (λ k. ⊥) None p.head p.first (first_store None) tt tt).1
wait-first (Some set) p =
    none-of (wait (Some set) (p ∷ [])) (each-picture (λ k. ⊥) None p.head p.first (first_store (Some set)) tt tt).1

wait-starts : (set : Option (ℕ × Format)) (p : Picture) (before : List Picture) → IsHead p.head
    → p.starts_sequence ≡ true → wait set (p ∷ before) ≡ []
wait-starts set p before h starts = by_test p.no_output_of_prior_pics refl
  where
    is : is_decoded p.head ≡ true
    is = decoded p.head h.range (h.starts starts)

    by_test : (b : Bool) → p.no_output_of_prior_pics ≡ b → wait set (p ∷ before) ≡ []
    by_test true e = (begin-discards p.head p.first (store_before set p before) is e).1
    by_test false e = (begin-starts p.head p.first (store_before set p before) is e starts).1

pub wait-begins : (set : Option (ℕ × Format)) (p : Picture) (before : List Picture) → IsHead p.head
    → begins p before ≡ true → wait set (p ∷ before) ≡ []
wait-begins set p [] h is = wait-first set p
wait-begins set p (q ∷ before) h is = wait-starts set p (q ∷ before) h is

-- the pictures of a sequence that are to be output
abbrev pub keys_for_output : List Picture → List Key
keys_for_output ps = map picture_key (filter is_for_output ps)

-- how many of these pictures after a number aren't skipped
abbrev pub after : ℕ → List Picture → ℕ
after n [] = 0
after n (p ∷ ps) = cond (not p.skipped && nat_lt n p.number) 1 0 + after n ps

-- A picture of this count may still come: it is reached by few of those that are over, and each of
-- these is late by few.
abbrev pub Near : Limits → List Picture → ℤ → Type 0
Near limits ps c = (at_least c (keys_for_output ps) ≤ limits.max_num_reorder_pics)
    × (0 < limits.max_latency_increase_plus1
    → Each (λ k. c ≤ℤ k.1 → after k.0 ps < latency_pictures limits) (keys_for_output ps))

-- and there was room
abbrev pub Allowed : Limits → (ℤ → Type 0) → List Picture → ℤ → Type 0
Allowed limits room ps c = Near limits ps c × room c

abbrev pub IsAged : List Picture → Aged → Type 0
IsAged ps w = w.1 ≤ after w.0.0 ps

-- What is so within a sequence, whose pictures that are over are these, once its latest picture has begun.
pub record Stands (limits : Limits) (room : ℤ → Type 0) (ps : List Picture) (out : List Key)
    (ws : List Aged) : Type 0 where
  pub waits : Waits (Allowed limits room ps) (keys_for_output ps) out (keys_of ws)
  pub ages : Each (IsAged ps) ws
  pub quiet : is_due limits ws ≡ false

-- What is asked of each picture of the sequence.
pub record IsOwn (limits : Limits) (format : Format) (test : ℕ → Bool) (p : Picture) : Type 0 where
  pub limits_are : p.limits ≡ limits
  pub format_is : p.format ≡ format
  pub head_is : IsHead p.head
  pub own : test p.number ≡ true

-- and of its place after those before it
pub record Fits (limits : Limits) (p : Picture) (ps : List Picture) : Type 0 where
  pub numbers : Each (λ b. b.number < p.number) ps
  pub differs : is_for_output p ≡ true → Each (Differ (picture_key p)) (keys_for_output ps)
  pub near : is_for_output p ≡ true → Near limits ps p.order_count

output-less : (P : Key → Type 0) (p : Picture) (ps : List Picture) → Each P (keys_for_output (p ∷ ps))
    → Each P (keys_for_output ps)
output-less P p ps h = by_test (is_for_output p) h
  where
    by_test : (b : Bool)
        → Each P (map picture_key (cond b (p ∷ filter is_for_output ps) (filter is_for_output ps)))
        → Each P (keys_for_output ps)
    by_test true h = h.1
    by_test false h = h

near-fewer : (limits : Limits) (p : Picture) (ps : List Picture) (c : ℤ) → Near limits (p ∷ ps) c → Near limits ps c
near-fewer limits p ps c h = (
  by_test (is_for_output p) h.0,
  λ some. each-weaker (λ k. c ≤ℤ k.1
      → after k.0 (p ∷ ps) < latency_pictures limits) (λ k. c ≤ℤ k.1
      → after k.0 ps < latency_pictures limits)
      (λ k e l. less (cond (not p.skipped && nat_lt k.0 p.number) 1 0) (after k.0 ps) (e l))
      (keys_for_output ps) (output-less (λ k. c ≤ℤ k.1 → after k.0 (p ∷ ps) < latency_pictures limits) p ps (h.1 some)),
)
  where
    less : (m n : ℕ) → m + n < latency_pictures limits → n < latency_pictures limits
    less m n l = omega (arith, l)

    fewer : (m n : ℕ) → m + n ≤ limits.max_num_reorder_pics → n ≤ limits.max_num_reorder_pics
    fewer m n l = omega (arith, l)

    by_test : (b : Bool)
        → at_least c (map picture_key (cond b (p ∷ filter is_for_output ps) (filter is_for_output ps)))
        ≤ limits.max_num_reorder_pics → at_least c (keys_for_output ps) ≤ limits.max_num_reorder_pics
    by_test true l = fewer (at_least c (picture_key p ∷ [])) (at_least c (keys_for_output ps)) (joined l)
      where
        joined : at_least c (picture_key p ∷ keys_for_output ps) ≤ limits.max_num_reorder_pics
            → at_least c (picture_key p ∷ []) + at_least c (keys_for_output ps) ≤ limits.max_num_reorder_pics
        joined l = omega (arith, l)
    by_test false l = l

inside-waits : (allowed : ℤ → Type 0) (test : ℕ → Bool) (over out ks : List Key) → Waits allowed over out ks
    → Each (Inside test) over → Each (Inside test) ks
inside-waits allowed test over out ks w h =
    each-right (Inside test) out ks (each-moves (Inside test) over (out ++ ks) w.same h)

none-late : (limits : Limits) (ws : List Aged) → Each (λ w. late limits w ≡ false) ws
    → list_any (late limits) ws ≡ false
none-late limits [] h = refl
none-late limits (w ∷ ws) h = by_test (late limits w) h.0 (none-late limits ws h.1)
  where
    by_test : (b : Bool) → b ≡ false → list_any (late limits) ws ≡ false → b || list_any (late limits) ws ≡ false
    by_test true e k = absurd (cc e)
    by_test false e k = k

-- As a picture is output, too many wait or one is late, or there is no room even if none that waits
-- is output before a count.
abbrev Due : Limits → Buffer → List Entry → ℤ → Type 0
Due limits es gone c = (needs_additional_bumping limits (after_output gone es) ≡ true)
    ⊎ (Each (λ k. c ≤ℤ k.1) (waiting (after_output gone es)) → ⊥)

-- As a picture is output the rule holds, so that no picture of its count or a lower one may still come.
early : (limits : Limits) (room : ℤ → Type 0) (ps : List Picture) (out : List Key) (es : Buffer)
    → Waits (Allowed limits room ps) (keys_for_output ps) out (waiting es) → Each (IsAged ps) (aged es)
    → (gone : List Entry) (x : Entry) (rest : List Entry) → gone ++ x ∷ rest ≡ in_output_order es → (c : ℤ)
    → Allowed limits room ps c → Due limits es gone c → x.order_count <ℤ c
early limits room ps out es w ages gone x rest e c may due = by_test (int_lt x.order_count c) refl
  where
    left : List Aged
    left = aged (after_output gone es)

    left_is : keys_of left ≡ without (keys gone) (waiting es)
    left_is = waiting-after gone es

    sorted_is : keys gone ++ keys (x ∷ rest) ≡ sort (waiting es)
    sorted_is = sym (keys-append gone (x ∷ rest)) ∙ ap keys e ∙ keys-in_output_order es

    sorted : Pairs Below (keys (x ∷ rest))
    sorted = pairs-right Below (keys gone) (keys (x ∷ rest))
        (subst (λ (l : List Key). Pairs Below l) (sym sorted_is) (below-sort (waiting es) w.differ))

    above : c ≤ℤ x.order_count → Each (λ k. c ≤ℤ k.1) (keys_of left)
    above l = subst (λ (ks : List Key). Each (λ k. c ≤ℤ k.1) ks) (sym left_is)
        (each-moves (λ k. c ≤ℤ k.1) (keys (x ∷ rest)) (without (keys gone) (waiting es))
        (left-moves (waiting es) (keys gone) (keys (x ∷ rest)) w.differ sorted_is)
        (l, each-weaker (Below (key x)) (λ k. c ≤ℤ k.1) (λ k b. further x.order_count k.1 l b) (keys rest) sorted.0))
      where
        further : (a b : ℤ) → c ≤ℤ a → a <ℤ b → c ≤ℤ b
        further a b h k = omega (arith, ints)

    -- no more than reorder reach the count
    few : c ≤ℤ x.order_count → too_many limits left ≡ false
    few l =
        let e1 : length (keys_of left) ≡ length left = length-map left aged_key in
        let e2 : at_least c (keys_of left) ≡ length (keys_of left) = at_least-all c (keys_of left) (above l) in
        let e3 : at_least c (keys_of left) ≤ at_least c (waiting es) =
        subst (λ (ks : List Key). at_least c ks ≤ at_least c (waiting es)) (sym left_is)
        (at_least-filter c (λ k. not (has k.0 (keys gone))) (waiting es)) in
        let e4 : at_least c (waiting es) ≤ at_least c (keys_for_output ps) =
        at_least-waits (Allowed limits room ps) (keys_for_output ps) out (waiting es) c w in
        not_many limits.max_num_reorder_pics (length left) (let e5 = may.0.0 in omega (arith, e1, e2, e3, e4, e5))
      where
        not_many : (r n : ℕ) → n ≤ r → nat_lt r n ≡ false
        not_many r n h = grind (arith, nat_tests)

    -- and none of these is late
    in_time : c ≤ℤ x.order_count → 0 < limits.max_latency_increase_plus1 → Each (λ v. late limits v ≡ false) left
    in_time l some =
        each-weaker (λ v. ((c ≤ℤ v.0.1) × (c ≤ℤ v.0.1 → after v.0.0 ps < latency_pictures limits))
        × (v.1 ≤ after v.0.0 ps)) (λ v. late limits v ≡ false)
        (λ v h. not_late (latency_pictures limits) v.1 (after v.0.0 ps) h.1 (h.0.1 h.0.0)) left
        (each-both (λ v. (c ≤ℤ v.0.1) × (c ≤ℤ v.0.1 → after v.0.0 ps < latency_pictures limits)) (IsAged ps) left
        (each-both (λ v. c ≤ℤ v.0.1) (λ v. c ≤ℤ v.0.1 → after v.0.0 ps < latency_pictures limits) left
        (each-of_map (λ k. c ≤ℤ k.1) aged_key left (above l))
        (each-of_map (λ k. c ≤ℤ k.1 → after k.0 ps < latency_pictures limits) aged_key left bounded))
        aged_left)
      where
        bounded : Each (λ k. c ≤ℤ k.1 → after k.0 ps < latency_pictures limits) (keys_of left)
        bounded = subst
            (λ (ks : List Key). Each (λ k. c ≤ℤ k.1 → after k.0 ps < latency_pictures limits) ks)
            (sym left_is) (each-filter (λ k. c ≤ℤ k.1 → after k.0 ps < latency_pictures limits)
            (λ k. not (has k.0 (keys gone))) (waiting es)
            (each-right (λ k. c ≤ℤ k.1 → after k.0 ps < latency_pictures limits) out (waiting es)
            (each-moves (λ k. c ≤ℤ k.1 → after k.0 ps < latency_pictures limits) (keys_for_output ps)
            (out ++ waiting es) w.same (may.0.1 some))))

        aged_left : Each (IsAged ps) left
        aged_left = subst (λ (vs : List Aged). Each (IsAged ps) vs) (sym (aged-after gone es))
            (each-filter (IsAged ps) (λ v. not (has v.0.0 (keys gone))) (aged es) ages)

        not_late : (n a b : ℕ) → a ≤ b → b < n → nat_le n a ≡ false
        not_late n a b h k = grind (arith, nat_tests)

    never : c ≤ℤ x.order_count → is_due limits left ≡ false
    never l = by_latency (nat_lt 0 limits.max_latency_increase_plus1)
        (some limits.max_latency_increase_plus1) (too_many limits left) (few l)
      where
        some : (n : ℕ) → nat_lt 0 n ≡ true → 0 < n
        some n h = grind (arith, nat_tests)

        by_latency : (b : Bool) → (b ≡ true → 0 < limits.max_latency_increase_plus1) → (m : Bool)
            → m ≡ false → m || (b && list_any (late limits) left) ≡ false
        by_latency b some true h = absurd (cc h)
        by_latency true some false h = none-late limits left (in_time l (some refl))
        by_latency false some false h = refl

    not_below : int_lt x.order_count c ≡ false → c ≤ℤ x.order_count
    not_below h = omega (arith, ints)

    below_if : int_lt x.order_count c ≡ true → x.order_count <ℤ c
    below_if h = omega (arith, ints)

    clash : (b : Bool) → b ≡ true → b ≡ false → ⊥
    clash true h k = absurd (cc k)
    clash false h k = absurd (cc h)

    by_test : (b : Bool) → int_lt x.order_count c ≡ b → x.order_count <ℤ c
    by_test true h = below_if h
    by_test false h =
        absurd (⊎_elim
        (λ holds. clash (is_due limits left) (sym (rule-is limits (after_output gone es)) ∙ holds)
        (never (not_below h))) (λ refuted. refuted (above (not_below h))) due)

-- the standing once what is due is output
bump-stands : (limits : Limits) (room : ℤ → Type 0) (test : ℕ → Bool) (ps : List Picture) (out : List Key)
    (rule : Buffer → Bool) (es : Buffer)
    → Waits (Allowed limits room ps) (keys_for_output ps) out (waiting es) → Each (IsAged ps) (aged es)
    → Each (Inside test) (keys_for_output ps)
    → ((gone : List Entry) → rule (after_output gone es) ≡ true → (c : ℤ) → Allowed limits room ps c
    → Due limits es gone c) → ((bs : Buffer) → rule bs ≡ false → needs_additional_bumping limits bs ≡ false)
    → Stands limits room ps (out ++ passing test (keys (due_outputs rule es)))
    (aged (after_output (due_outputs rule es) es))
bump-stands limits room test ps out rule es w ages inside is_due_as is_quiet_as = record {
  waits = subst
      (λ (l : List Key). Waits (Allowed limits room ps) (keys_for_output ps) (out ++ l)
      (waiting (after_output due es))) (sym passed)
      (subst (λ (l : List Key). Waits (Allowed limits room ps) (keys_for_output ps) (out ++ keys due) l)
      (sym (waiting-after due es))
      (waits-bump (Allowed limits room ps) (keys_for_output ps) out (waiting es) (keys due)
      (keys (due_rest rule es)) w (due-front rule es) given));
  ages = subst (λ (vs : List Aged). Each (IsAged ps) vs) (sym (aged-after due es))
      (each-filter (IsAged ps) (λ v. not (has v.0.0 (keys due))) (aged es) ages);
  quiet = due-quiet limits rule es w.differ is_quiet_as;
}
  where
    due : List Entry
    due = due_outputs rule es

    given : Each (λ k. (c : ℤ) → Allowed limits room ps c → k.1 <ℤ c) (keys due)
    given = due-each (λ k. (c : ℤ) → Allowed limits room ps c → k.1 <ℤ c) rule es
        (λ gone x rest e holds c may. early limits room ps out es w ages gone x rest e c may
        (is_due_as gone holds c may))

    passed : passing test (keys due) ≡ keys due
    passed = filter-all
        (λ (k : Key). test k.0) (keys due)
        (each-due (Inside test) rule es
        (inside-waits (Allowed limits room ps) test (keys_for_output ps) out (waiting es) w inside))

-- less room
stands-fewer : (limits : Limits) (room more : ℤ → Type 0) → ((c : ℤ) → more c → room c)
    → (ps : List Picture) (out : List Key) (ws : List Aged) → Stands limits room ps out ws
    → Stands limits more ps out ws
stands-fewer limits room more f ps out ws s = record {
  waits = waits-fewer (Allowed limits room ps) (Allowed limits more ps)
      (λ c h. (h.0, f c h.1)) (keys_for_output ps) out (keys_of ws) s.waits;
  ages = s.ages;
  quiet = s.quiet;
}

-- as a picture is to be decoded
begin-stands : (limits : Limits) (room more : ℤ → Type 0) → ((c : ℤ) → more c → room c)
    → (test : ℕ → Bool) (ps : List Picture) (out : List Key) (es : Buffer)
    → Each (λ e. is_needed e ≡ true) es
    → ((c : ℤ) → more c → length (needed_behind c es) < limits.max_dec_pic_buffering_minus1 + 1)
    → Each (Inside test) (keys_for_output ps) → Stands limits room ps out (aged es)
    → Stands limits more ps (out ++ passing test (keys (due_outputs (needs_bumping limits) es)))
    (aged (after_output (due_outputs (needs_bumping limits) es) es))
unfolding needs_bumping
begin-stands limits room more f test ps out es needed few inside s =
    let t : Stands limits more ps out (aged es) = stands-fewer limits room more f ps out (aged es) s in
    bump-stands limits more test ps out (needs_bumping limits) es t.waits t.ages inside
    (λ gone holds c may. by_rule gone c may (needs_additional_bumping limits (after_output gone es)) refl
    holds) (λ bs h. left_false (needs_additional_bumping limits bs)
    (nat_le (limits.max_dec_pic_buffering_minus1 + 1) (length bs)) h)
  where
    left_false : (a b : Bool) → a || b ≡ false → a ≡ false
    left_false true b h = h
    left_false false b h = refl

    full : (b n m : ℕ) → nat_le (b + 1) n ≡ true → n ≤ m → m < b + 1 → ⊥
    full b n m h k l = grind (arith, nat_tests)

    by_rule : (gone : List Entry) (c : ℤ) → Allowed limits more ps c → (a : Bool)
        → needs_additional_bumping limits (after_output gone es) ≡ a
        → a || nat_le (limits.max_dec_pic_buffering_minus1 + 1) (length (after_output gone es)) ≡ true
        → Due limits es gone c
    by_rule gone c may true is holds = inl is
    by_rule gone c may false is holds =
        inr (λ all. full limits.max_dec_pic_buffering_minus1 (length (after_output gone es))
        (length (needed_behind c es)) holds (after-few c gone es needed all) (few c may.1))

hidden : (p : Picture) → p.skipped ≡ true → is_for_output p ≡ false
hidden p e = ap (λ (b : Bool). p.pic_output_flag && not b) e ∙ by_flag p.pic_output_flag
  where
    by_flag : (b : Bool) → b && false ≡ false
    by_flag true = refl
    by_flag false = refl

flagged : (p : Picture) → p.skipped ≡ false → is_for_output p ≡ p.pic_output_flag
flagged p e = ap (λ (b : Bool). p.pic_output_flag && not b) e ∙ by_flag p.pic_output_flag
  where
    by_flag : (b : Bool) → b && true ≡ b
    by_flag true = refl
    by_flag false = refl

after-skipped : (n : ℕ) (p : Picture) (ps : List Picture) → p.skipped ≡ true → after n (p ∷ ps) ≡ after n ps
after-skipped n p ps e = ap (λ (b : Bool). cond (not b && nat_lt n p.number) 1 0 + after n ps) e ∙ none
  where
    none : 0 + after n ps ≡ after n ps
    none = omega arith

after-stored : (n : ℕ) (p : Picture) (ps : List Picture) → p.skipped ≡ false → n < p.number
    → after n ps + 1 ≡ after n (p ∷ ps)
after-stored n p ps e below =
    sym (ap (λ (b : Bool). cond (not b && nat_lt n p.number) 1 0 + after n ps) e
    ∙ by_test (nat_lt n p.number) (is n p.number below))
  where
    is : (m k : ℕ) → m < k → nat_lt m k ≡ true
    is m k h = grind (arith, nat_tests)

    by_test : (b : Bool) → b ≡ true → cond b 1 0 + after n ps ≡ after n ps + 1
    by_test true h = omega arith
    by_test false h = absurd (cc h)

-- a picture of the sequence is over
finish-stands : (limits : Limits) (room : ℤ → Type 0) (format : Format) (test : ℕ
    → Bool) (p : Picture) (ps : List Picture) (out : List Key) (s : Store) → IsOwn limits format test p
    → Fits limits p ps → (is_for_output p ≡ true → room p.order_count) → Each (Inside test) (keys_for_output (p ∷ ps))
    → Stands limits room ps out (aged s.buffer)
    → Stands limits room (p ∷ ps) (out ++ passing test (outs (finish (Some p.head) s).events))
    (aged (finish (Some p.head) s).next.buffer)
finish-stands limits room format test p ps out s is fits roomy inside st = by_skipped p.skipped refl
  where
    skipped_case : p.skipped ≡ true → Stands limits room (p ∷ ps) (out ++ []) (aged s.buffer)
    skipped_case e = record {
      waits = subst
          (λ (l : List Key). Waits (Allowed limits room (p ∷ ps)) (keys_for_output (p ∷ ps)) l
          (waiting s.buffer)) (sym (append-nil out))
          (subst (λ (b : Bool). Waits (Allowed limits room (p ∷ ps))
          (map picture_key (cond b (p ∷ filter is_for_output ps) (filter is_for_output ps))) out
          (waiting s.buffer)) (sym (hidden p e))
          (waits-fewer (Allowed limits room ps) (Allowed limits room (p ∷ ps))
          (λ c h. (near-fewer limits p ps c h.0, h.1)) (keys_for_output ps) out (waiting s.buffer) st.waits));
      ages = each-weaker (IsAged ps) (IsAged (p ∷ ps))
          (λ w h. subst (λ (n : ℕ). w.1 ≤ n) (sym (after-skipped w.0.0 p ps e)) h) (aged s.buffer) st.ages;
      quiet = st.quiet;
    }

    es : Buffer
    es = stored p.head s

    stored_waits : p.skipped ≡ false
        → Waits (Allowed limits room (p ∷ ps)) (keys_for_output (p ∷ ps)) out (waiting s.buffer ++ stored_key p.head)
    stored_waits e =
        subst (λ (b : Bool). Waits (Allowed limits room (p ∷ ps))
        (map picture_key (cond b (p ∷ filter is_for_output ps) (filter is_for_output ps))) out
        (waiting s.buffer ++ stored_key p.head)) (sym (flagged p e)) (by_flag p.pic_output_flag refl)
      where
        by_flag : (b : Bool) → p.pic_output_flag ≡ b
            → Waits (Allowed limits room (p ∷ ps))
            (map picture_key (cond b (p ∷ filter is_for_output ps) (filter is_for_output ps))) out
            (waiting s.buffer ++ cond b (picture_key p ∷ []) [])
        by_flag true f = waits-fewer (Allowed limits room ps) (Allowed limits room (p ∷ ps))
            (λ c h. (near-fewer limits p ps c h.0, h.1)) (picture_key p ∷ keys_for_output ps) out
            (waiting s.buffer ++ picture_key p ∷ [])
            (waits-more (Allowed limits room ps) (keys_for_output ps) out (waiting s.buffer)
            (picture_key p) st.waits (fits.differs (flagged p e ∙ f)) (
              fits.near (flagged p e ∙ f),
              roomy (flagged p e ∙ f),
            ))
        by_flag false f =
            subst (λ (l : List Key). Waits (Allowed limits room (p ∷ ps)) (keys_for_output ps) out l)
            (sym (append-nil (waiting s.buffer)))
            (waits-fewer (Allowed limits room ps) (Allowed limits room (p ∷ ps))
            (λ c h. (near-fewer limits p ps c h.0, h.1)) (keys_for_output ps) out (waiting s.buffer) st.waits)

    numbers_below : Each (λ k. k.0 < p.number) (waiting s.buffer)
    numbers_below =
        each-right (λ k. k.0 < p.number) out (waiting s.buffer)
        (each-moves (λ k. k.0 < p.number) (keys_for_output ps) (out ++ waiting s.buffer) st.waits.same
        (each-map (λ k. k.0 < p.number) picture_key (filter is_for_output ps)
        (each-filter (λ b. b.number < p.number) is_for_output ps fits.numbers)))

    stored_ages : p.skipped ≡ false → Each (IsAged (p ∷ ps)) (map older (aged s.buffer) ++ stored_aged p.head)
    stored_ages e = each-append (IsAged (p ∷ ps)) (map older (aged s.buffer)) (stored_aged p.head)
        (each-map (IsAged (p ∷ ps)) older (aged s.buffer)
        (each-weaker (λ w. (w.1 ≤ after w.0.0 ps) × (w.0.0 < p.number))
        (λ w. min (w.1 + 1) (2 ^ 31 - 1) ≤ after w.0.0 (p ∷ ps))
        (λ w h. subst (λ (n : ℕ). min (w.1 + 1) (2 ^ 31 - 1) ≤ n) (after-stored w.0.0 p ps e h.1)
        (raised w.1 (after w.0.0 ps) h.0)) (aged s.buffer)
        (each-both (IsAged ps) (λ w. w.0.0 < p.number) (aged s.buffer) st.ages
        (each-of_map (λ k. k.0 < p.number) aged_key (aged s.buffer) numbers_below))))
        (by_flag p.pic_output_flag)
      where
        raised : (m n : ℕ) → m ≤ n → min (m + 1) (2 ^ 31 - 1) ≤ n + 1
        raised m n h = omega (arith, h)

        own_age : 0 ≤ after p.number (p ∷ ps)
        own_age = omega arith

        by_flag : (b : Bool) → Each (IsAged (p ∷ ps)) (cond b ((picture_key p, 0) ∷ []) [])
        by_flag true = (own_age, tt)
        by_flag false = tt

    stored_case : p.skipped ≡ false
        → Stands limits room (p ∷ ps)
        (out ++ passing test (keys (due_outputs (needs_additional_bumping limits) es)))
        (aged (after_output (due_outputs (needs_additional_bumping limits) es) es))
    stored_case e = bump-stands limits room test (p ∷ ps) out (needs_additional_bumping limits) es
        (subst (λ (l : List Key). Waits (Allowed limits room (p ∷ ps)) (keys_for_output (p ∷ ps)) out l)
        (sym (waiting-stored p.head s.buffer)) (stored_waits e))
        (subst (λ (vs : List Aged). Each (IsAged (p ∷ ps)) vs) (sym (aged-stored p.head s.buffer))
        (stored_ages e)) inside (λ gone holds c may. inl holds) (λ bs h. h)

    due_is : stored_due p.head s ≡ due_outputs (needs_additional_bumping limits) es
    due_is = ap (λ (l : Limits). due_outputs (needs_additional_bumping l) es) is.limits_are

    by_skipped : (b : Bool) → p.skipped ≡ b
        → Stands limits room (p ∷ ps) (out ++ passing test (outs (finish (Some p.head) s).events))
        (aged (finish (Some p.head) s).next.buffer)
    by_skipped true e =
        subst (λ (part : Part Store). Stands limits room (p ∷ ps) (out ++ passing test (outs part.events))
        (aged part.next.buffer)) (sym (finish-skipped p.head s e)) (skipped_case e)
    by_skipped false e =
        let g = finish-stored p.head s e in
        subst (λ (l : List Key). Stands limits room (p ∷ ps) (out ++ passing test l)
        (aged (finish (Some p.head) s).next.buffer)) (sym (g.0 ∙ ap keys due_is))
        (subst (λ (b : Buffer). Stands limits room (p ∷ ps)
        (out ++ passing test (keys (due_outputs (needs_additional_bumping limits) es))) (aged b))
        (sym (g.1 ∙ ap (λ (l : List Entry). after_output l es) due_is)) (stored_case e))

finish-accepted : (q : Option Head) (s : Store) → (finish q s).next.accepted ≡ s.accepted
unfolding finish store_picture
finish-accepted None s = refl
finish-accepted (Some q) s = by_test q.skipped
  where
    by_test : (b : Bool) → (cond b (nothing s) (store_picture q s)).next.accepted ≡ s.accepted
    by_test true = refl
    by_test false = refl

-- Within a sequence a picture that begins outputs what the one before makes due.
prepare-gives : (limits : Limits) (format : Format) (test : ℕ → Bool) (set : Option (ℕ × Format))
    (p h : Picture) (t : List Picture) → IsOwn limits format test h → p.format ≡ format
    → Gives (prepare (Some h.head) p.head (store set (h ∷ t)))
    (outs (finish (Some h.head) (store set (h ∷ t))).events)
    (aged (finish (Some h.head) (store set (h ∷ t))).next.buffer)
prepare-gives limits format test set p h t is same =
    subst (λ (l : List Key). Gives (f >>= change_format p.format) l (aged f.next.buffer))
    (append-nil (outs f.events))
    (then-gives f (change_format p.format) (outs f.events) [] (aged f.next.buffer) refl
    (subst (λ (part : Part Store). Gives part [] (aged f.next.buffer))
    (sym (change-same p.format f.next accepted)) (refl, refl)))
  where
    f : Part Store
    f = finish (Some h.head) (store set (h ∷ t))

    accepted : f.next.accepted ≡ Some p.format
    accepted = finish-accepted (Some h.head) (store set (h ∷ t)) ∙ accepted_is set h t
        ∙ ap (λ (x : Format). Some x) (is.format_is ∙ sym same)

needed-each : (es : Buffer) → Each (λ e. is_needed e ≡ true) (filter is_needed es)
needed-each [] = tt
needed-each (e ∷ es) = by_test (is_needed e) refl (needed-each es)
  where
    by_test : (b : Bool) → is_needed e ≡ b → Each (λ e. is_needed e ≡ true) (filter is_needed es)
        → Each (λ e. is_needed e ≡ true) (cond b (e ∷ filter is_needed es) (filter is_needed es))
    by_test true is h = (is, h)
    by_test false is h = h

-- the standing once a picture of the sequence begins
begin-behind : (limits : Limits) (room more : ℤ → Type 0) → ((c : ℤ) → more c → room c)
    → (format : Format) (test : ℕ → Bool) (p : Picture) (ps : List Picture) (out : List Key) (s : Store)
    → IsOwn limits format test p → p.starts_sequence ≡ false
    → ((c : ℤ) → more c → p.skipped ≡ false
    → length (needed_behind c (kept p.head p.first s)) < p.limits.max_dec_pic_buffering_minus1 + 1)
    → Each (Inside test) (keys_for_output ps) → Stands limits room ps out (aged s.buffer)
    → Stands limits more ps (out ++ passing test (outs (begin_picture p.head p.first s).events))
    (aged (begin_picture p.head p.first s).next.buffer)
begin-behind limits room more f format test p ps out s is within few inside st = by_skipped p.skipped refl
  where
    es : Buffer
    es = kept p.head p.first s

    bumped : p.skipped ≡ false
        → Stands limits more ps (out ++ passing test (keys (due_outputs (needs_bumping limits) es)))
        (aged (after_output (due_outputs (needs_bumping limits) es) es))
    bumped e = begin-stands limits room more f test ps out es
        (needed-each (with_marks p.head p.first s.buffer))
        (λ c h. subst
        (λ (l : Limits). length (needed_behind c es) < l.max_dec_pic_buffering_minus1 + 1) is.limits_are
        (few c h e)) inside
        (subst (λ (ws : List Aged). Stands limits room ps out ws) (sym (aged-kept p.head p.first s)) st)

    due_is : kept_due p.head p.first s ≡ due_outputs (needs_bumping limits) es
    due_is = ap (λ (l : Limits). due_outputs (needs_bumping l) es) is.limits_are

    by_skipped : (b : Bool) → p.skipped ≡ b
        → Stands limits more ps (out ++ passing test (outs (begin_picture p.head p.first s).events))
        (aged (begin_picture p.head p.first s).next.buffer)
    by_skipped true e =
        subst (λ (part : Part Store). Stands limits more ps (out ++ passing test (outs part.events))
        (aged part.next.buffer)) (sym (begin-not p.head p.first s (not_decoded p.head e)))
        (subst (λ (l : List Key). Stands limits more ps l (aged s.buffer)) (sym (append-nil out))
        (stands-fewer limits room more f ps out (aged s.buffer) st))
    by_skipped false e =
        let g = begin-within p.head p.first s (decoded p.head is.head_is.range e) (is.head_is.within within) within in
        subst (λ (l : List Key). Stands limits more ps (out ++ passing test l)
        (aged (begin_picture p.head p.first s).next.buffer)) (sym (g.0 ∙ ap keys due_is))
        (subst (λ (b : Buffer). Stands limits more ps
        (out ++ passing test (keys (due_outputs (needs_bumping limits) es))) (aged b))
        (sym (g.1 ∙ ap (λ (l : List Entry). after_output l es) due_is)) (bumped e))

pub stands-more : (limits : Limits) (room more : ℤ → Type 0) → ((c : ℤ) → more c → room c)
    → (format : Format) (test : ℕ → Bool) (set : Option (ℕ × Format)) (p h : Picture) (t ps : List Picture)
    → IsOwn limits format test h → IsOwn limits format test p → p.starts_sequence ≡ false
    → ((c : ℤ) → more c → p.skipped ≡ false
    → length (needed_behind c (entries_before set p (h ∷ t))) < p.limits.max_dec_pic_buffering_minus1 + 1)
    → Fits limits h ps → (is_for_output h ≡ true → room h.order_count)
    → Each (Inside test) (keys_for_output (h ∷ ps))
    → Stands limits room ps (output test set (h ∷ t)) (wait set (h ∷ t))
    → Stands limits more (h ∷ ps) (output test set (p ∷ h ∷ t)) (wait set (p ∷ h ∷ t))
stands-more limits room more further format test set p h t ps is_h is_p within few fits roomy inside
    stands = subst (λ (l : List Key). Stands limits more (h ∷ ps) l (wait set (p ∷ h ∷ t))) (sym whole) c
  where
    s : Store
    s = store set (h ∷ t)

    out : List Key
    out = output test set (h ∷ t)

    f : Part Store
    f = finish (Some h.head) s

    prepared : Part Store
    prepared = prepare (Some h.head) p.head s

    g : Gives prepared (outs f.events) (aged f.next.buffer)
    g = prepare-gives limits format test set p h t is_h is_p.format_is

    b : Stands limits room (h ∷ ps) (out ++ passing test (outs f.events)) (aged prepared.next.buffer)
    b = subst (λ (ws : List Aged). Stands limits room (h ∷ ps) (out ++ passing test (outs f.events)) ws)
        (sym g.1) (finish-stands limits room format test h ps out s is_h fits roomy inside stands)

    begun : Part Store
    begun = begin_picture p.head p.first prepared.next

    c : Stands limits more (h ∷ ps) ((out ++ passing test (outs f.events))
        ++ passing test (outs begun.events)) (aged begun.next.buffer)
    c = begin-behind limits room more further format test p (h ∷ ps)
        (out ++ passing test (outs f.events)) prepared.next is_p within few inside b

    whole : output test set (p ∷ h ∷ t) ≡ (out ++ passing test (outs f.events)) ++ passing test (outs begun.events)
    whole =
        output-more test set p (h ∷ t)
        ∙ ap (λ (l : List Key). out ++ passing test l) (outs-append prepared.events begun.events
        ∙ ap (λ (l : List Key). l ++ outs begun.events) g.0)
        ∙ ap (λ (l : List Key). out ++ l) (passing-append test (outs f.events) (outs begun.events))
        ∙ sym (append_assoc out (passing test (outs f.events)) (passing test (outs begun.events)))

-- and as the sequence ends all are output
behind-drain : (limits : Limits) (room : ℤ → Type 0) (test : ℕ → Bool) (ps : List Picture) (out : List Key)
    (part : Part Store) → Each (Inside test) (keys_for_output ps)
    → Stands limits room ps (out ++ passing test (outs part.events)) (aged part.next.buffer)
    → Ordered (keys_for_output ps) (out ++ passing test (outs part.events ++ sort (waiting part.next.buffer)))
behind-drain limits room test ps out part inside b =
    let w : List Key = waiting part.next.buffer in
    let e : passing test (outs part.events ++ sort w) ≡ passing test (outs part.events) ++ sort w =
    passing-append test (outs part.events) (sort w)
    ∙ ap (λ (l : List Key). passing test (outs part.events) ++ l)
    (filter-all (λ (k : Key). test k.0) (sort w)
    (each-sort (Inside test) w
    (inside-waits (Allowed limits room ps) test (keys_for_output ps)
    (out ++ passing test (outs part.events)) w b.waits inside))) in
    subst (λ (l : List Key). Ordered (keys_for_output ps) l)
    (append_assoc out (passing test (outs part.events)) (sort w) ∙ ap (λ (l : List Key). out ++ l) (sym e))
    (waits-drain (Allowed limits room ps) (keys_for_output ps) (out ++ passing test (outs part.events)) w b.waits)

pub stands-closing : (limits : Limits) (room : ℤ → Type 0) (format : Format) (test : ℕ
    → Bool) (set : Option (ℕ × Format)) (h : Picture) (t ps : List Picture) → IsOwn limits format test h
    → Fits limits h ps → (is_for_output h ≡ true → room h.order_count)
    → Each (Inside test) (keys_for_output (h ∷ ps))
    → Stands limits room ps (output test set (h ∷ t)) (wait set (h ∷ t))
    → Ordered (keys_for_output (h ∷ ps)) (output test set (h ∷ t)
    ++ passing test (outs (closing (Some h.head) (store set (h ∷ t))).events))
stands-closing limits room format test set h t ps is fits roomy inside stands =
    subst (λ (l : List Key). Ordered (keys_for_output (h ∷ ps)) (out ++ passing test l)) (sym g.0)
    (behind-drain limits room test (h ∷ ps) out f inside b)
  where
    out : List Key
    out = output test set (h ∷ t)

    f : Part Store
    f = finish (Some h.head) (store set (h ∷ t))

    b : Stands limits room (h ∷ ps) (out ++ passing test (outs f.events)) (aged f.next.buffer)
    b = finish-stands limits room format test h ps out (store set (h ∷ t)) is fits roomy inside stands

    g : Gives (closing (Some h.head) (store set (h ∷ t))) (outs f.events ++ sort (waiting f.next.buffer)) []
    g = then-gives f (output_by draining) (outs f.events) (sort (waiting f.next.buffer)) [] refl (drain-gives f.next)

pub stands-next : (limits : Limits) (room : ℤ → Type 0) (format : Format) (test : ℕ
    → Bool) (set : Option (ℕ × Format)) (n h : Picture) (t ps : List Picture) → IsOwn limits format test h
    → IsHead n.head → n.starts_sequence ≡ true → n.no_output_of_prior_pics ≡ false
    → Fits limits h ps → (is_for_output h ≡ true → room h.order_count)
    → Each (Inside test) (keys_for_output (h ∷ ps))
    → Stands limits room ps (output test set (h ∷ t)) (wait set (h ∷ t))
    → Ordered (keys_for_output (h ∷ ps)) (output test set (n ∷ h ∷ t)) × (wait set (n ∷ h ∷ t) ≡ [])
stands-next limits room format test set n h t ps is head_is starts discards fits roomy inside stands = (
  subst (λ (l : List Key). Ordered (keys_for_output (h ∷ ps)) l) (sym whole)
      (behind-drain limits room test (h ∷ ps) out f inside b),
  g.1,
)
  where
    out : List Key
    out = output test set (h ∷ t)

    f : Part Store
    f = finish (Some h.head) (store set (h ∷ t))

    c : Part Store
    c = change_format n.format f.next

    b : Stands limits room (h ∷ ps) (out ++ passing test (outs f.events)) (aged f.next.buffer)
    b = finish-stands limits room format test h ps out (store set (h ∷ t)) is fits roomy inside stands

    changed : outs c.events ++ sort (waiting c.next.buffer) ≡ sort (waiting f.next.buffer)
    changed = change-gives
        (λ gone left. gone ++ sort (keys_of left) ≡ sort (waiting f.next.buffer)) n.format f.next refl
        (append-nil (sort (waiting f.next.buffer)))

    g : Gives (picture_part (Some h.head) n.head n.first (store set (h ∷ t)))
        ((outs f.events ++ outs c.events) ++ sort (waiting c.next.buffer)) []
    g = then-gives (prepare (Some h.head) n.head (store set (h ∷ t))) (begin_picture n.head n.first)
        (outs f.events ++ outs c.events) (sort (waiting c.next.buffer)) [] (outs-append f.events c.events)
        (begin-starts n.head n.first c.next (decoded n.head head_is.range (head_is.starts starts)) discards starts)

    whole : output test set (n ∷ h ∷ t) ≡ out ++ passing test (outs f.events ++ sort (waiting f.next.buffer))
    whole = output-more test set n (h ∷ t)
        ∙ ap (λ (l : List Key). out ++ passing test l)
        (g.0 ∙ append_assoc (outs f.events) (outs c.events) (sort (waiting c.next.buffer))
        ∙ ap (λ (l : List Key). outs f.events ++ l) changed)

pub stands-first : (limits : Limits) (room : ℤ → Type 0) → Stands limits room [] [] []
stands-first limits room = record { waits = waits-none (Allowed limits room []); ages = tt; quiet = due-nothing limits }
