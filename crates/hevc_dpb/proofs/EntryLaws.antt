-- What stays of the entries as some leave or one comes.
use Rattle.std.proofs.Common.{◌≡◌, ◌≢◌, ⊎_elim, ℕ, ◌≤◌, Bool, true, false, cond, ◌||◌, List, []}
use Rattle.std.proofs.Common.{◌∷◌, ◌++◌, length, map, refl, sym, ap, ◌∙◌, subst, arith}
use Rattle.std.specs.Prelude.{Contains, filter}
use Rattle.std.proofs.lemmas.List.{map-append}
use Rattle.hevc_dpb.specs.declared.entry.DpbEntry.{DpbEntry}
use Rattle.hevc_dpb.specs.Entries.{IsPartOf, numbers, tickets, ticket, is_ref, waits, is_needed, with_latency}
use Rattle.hevc_dpb.specs.Numbers.{Absent, Distinct}
use Rattle.hevc_dpb.proofs.Members.{contains_first, contains_later, contains_cases}

few_by_test : {X : Type 0} (e : X) (es fs : List X) (b : Bool) → length fs ≤ length es
    → length (cond b (e ∷ fs) fs) ≤ length (e ∷ es)
few_by_test e es fs true h = omega arith
few_by_test e es fs false h = omega arith

pub filter_few : {X : Type 0} (p : X → Bool) (es : List X) → length (filter p es) ≤ length es
filter_few p [] = omega arith
filter_few p (e ∷ es) = few_by_test e es (filter p es) (p e) (filter_few p es)

part_by_test : {X Y : Type 0} (f : X → Y) (e : X) (es fs : List X) (b : Bool)
    → IsPartOf (map f fs) (map f es) → IsPartOf (map f (cond b (e ∷ fs) fs)) (map f (e ∷ es))
part_by_test f e es fs true part y h =
    ⊎_elim (λ is. subst (Contains (map f (e ∷ es))) is (contains_first (f e) (map f es)))
    (λ k. contains_later (f e) y (map f es) (part y k)) (contains_cases (f e) y (map f fs) h)
part_by_test f e es fs false part y h = contains_later (f e) y (map f es) (part y h)

-- what is left of some entries by a test
pub map_filter_part : {X Y : Type 0} (f : X → Y) (p : X → Bool) (es : List X)
    → IsPartOf (map f (filter p es)) (map f es)
map_filter_part f p [] = λ y h. h
map_filter_part f p (e ∷ es) = part_by_test f e es (filter p es) (p e) (map_filter_part f p es)

absent_by_test : {X : Type 0} (f : X → ℕ) (n : ℕ) (e : X) (fs : List X) (b : Bool) → f e ≢ n
    → Absent n (map f fs) → Absent n (map f (cond b (e ∷ fs) fs))
absent_by_test f n e fs true ne k = (ne, k)
absent_by_test f n e fs false ne k = k

pub absent_filter : {X : Type 0} (f : X → ℕ) (p : X → Bool) (n : ℕ) (es : List X) → Absent n (map f es)
    → Absent n (map f (filter p es))
absent_filter f p n [] h = h
absent_filter f p n (e ∷ es) h = absent_by_test f n e (filter p es) (p e) h.0 (absent_filter f p n es h.1)

distinct_by_test : {X : Type 0} (f : X → ℕ) (e : X) (fs : List X) (b : Bool) → Absent (f e) (map f fs)
    → Distinct (map f fs) → Distinct (map f (cond b (e ∷ fs) fs))
distinct_by_test f e fs true a d = (a, d)
distinct_by_test f e fs false a d = d

pub distinct_filter : {X : Type 0} (f : X → ℕ) (p : X → Bool) (es : List X) → Distinct (map f es)
    → Distinct (map f (filter p es))
distinct_filter f p [] h = h
distinct_filter f p (e ∷ es) h =
    distinct_by_test f e (filter p es) (p e) (absent_filter f p (f e) es h.0) (distinct_filter f p es h.1)

needed_by_test : {T : Type 0} (e : DpbEntry T) (fs gs : List (DpbEntry T)) (w r : Bool) → is_ref e ≡ r
    → filter is_ref fs ≡ gs → filter is_ref (cond (w || r) (e ∷ fs) fs) ≡ cond r (e ∷ gs) gs
needed_by_test e fs gs true true is same = ap (λ b. cond b (e ∷ filter is_ref fs) (filter is_ref fs)) is
    ∙ ap (λ l. e ∷ l) same
needed_by_test e fs gs true false is same = ap (λ b. cond b (e ∷ filter is_ref fs) (filter is_ref fs)) is ∙ same
needed_by_test e fs gs false true is same = ap (λ b. cond b (e ∷ filter is_ref fs) (filter is_ref fs)) is
    ∙ ap (λ l. e ∷ l) same
needed_by_test e fs gs false false is same = same

-- the references are needed
pub references_needed : {T : Type 0} (es : List (DpbEntry T)) → filter is_ref (filter is_needed es) ≡ filter is_ref es
references_needed [] = refl
references_needed (e ∷ es) =
    needed_by_test e (filter is_needed es) (filter is_ref es) (waits e) (is_ref e) refl (references_needed es)

pub map_older : {T Y : Type 0} (f : DpbEntry T → Y) → ((e : DpbEntry T) → f (with_latency e) ≡ f e)
    → (es : List (DpbEntry T)) → map f (map with_latency es) ≡ map f es
map_older f same [] = refl
map_older f same (e ∷ es) = ap (λ y. y ∷ map f (map with_latency es)) (same e) ∙ ap (λ l. f e ∷ l) (map_older f same es)

absent_push : (n m : ℕ) (ns : List ℕ) → Absent n ns → m ≢ n → Absent n (ns ++ m ∷ [])
absent_push n m [] h ne = (ne, tt)
absent_push n m (k ∷ ns) h ne = (h.0, absent_push n m ns h.1 ne)

pub distinct_push : (n : ℕ) (ns : List ℕ) → Distinct ns → Absent n ns → Distinct (ns ++ n ∷ [])
distinct_push n [] d h = (tt, tt)
distinct_push n (m ∷ ns) d h = (absent_push m n ns d.0 (λ is. h.0 (sym is)), distinct_push n ns d.1 h.1)

pub numbers_stored : {T : Type 0} (es : List (DpbEntry T)) (e : DpbEntry T)
    → numbers (map with_latency es ++ e ∷ []) ≡ numbers es ++ e.number ∷ []
numbers_stored es e = map-append (λ f. f.number) (map with_latency es) (e ∷ [])
    ∙ ap (λ l. l ++ e.number ∷ []) (map_older (λ f. f.number) (λ f. refl) es)

pub tickets_stored : {T : Type 0} (es : List (DpbEntry T)) (e : DpbEntry T)
    → tickets (map with_latency es ++ e ∷ []) ≡ tickets es ++ ticket e ∷ []
tickets_stored es e = map-append ticket (map with_latency es) (e ∷ [])
    ∙ ap (λ l. l ++ ticket e ∷ []) (map_older ticket (λ f. refl) es)
