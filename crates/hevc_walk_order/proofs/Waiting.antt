-- What is needed for output in a buffer: numbers with order counts and latency counts, in stored order.
use Rattle.std.proofs.Common.{◌≡◌, ◌⊎◌, inl, inr, ⊎_elim, ℕ, ℤ, ◌+◌, ◌-◌, ◌^◌, min, ◌≤◌, ◌≤ℤ◌, Bool}
use Rattle.std.proofs.Common.{true, false, not, cond, ◌&&◌, ◌||◌, eqb, List, [], ◌∷◌, ◌++◌, length}
use Rattle.std.proofs.Common.{map, filter, refl, sym, ◌∙◌, ap, subst, arith, Option, append-nil}
use Rattle.std.proofs.Common.{length-append}
use Rattle.std.specs.Prelude.{int_le, int_lt, nat_lt, nat_le, count_by}
use Rattle.std.specs.List.{AllByRecursion as Each, list_any}
use Rattle.std.proofs.lemmas.Int.{ints}
use Rattle.std.proofs.lemmas.Bool.Decides.{nat_tests}
use Rattle.std.proofs.lemmas.List.Recursion.{is_count_by}
use Rattle.std.proofs.lemmas.List.Sorted.{length_permutation}
use Rattle.hevc_walk.specs.Meanings.{Slice, Limits}
use Rattle.hevc_walk.specs.Pictures.{Head}
use Rattle.hevc_walk.specs.Buffer.{Entry, Buffer, LongTerm, is_reference, placed, in_output_order}
use Rattle.hevc_walk.specs.Buffer.{has_number, left_of, after_output, shortest_front, due_outputs}
use Rattle.hevc_walk.specs.Buffer.{is_needed, is_late, with_stored, with_latency, entry_of}
use Rattle.hevc_walk.specs.Buffer.{needs_additional_bumping}
use Rattle.hevc_walk.specs.ReferenceSets.{with_marks, reference_set, with_long_term}
use Rattle.hevc_walk.specs.ReferenceSets.{references_before, marked_if, all_members, long_term_if}
use Rattle.hevc_walk.specs.ReferenceSets.{long_term_entry, unmarked, names}
use Rattle.hevc_walk_order.specs.DisplayOrder.{latency_pictures, needed_behind}
use Rattle.hevc_walk_order.proofs.Each.{each-left, each-right, each-filter, Pairs}
use Rattle.hevc_walk_order.proofs.Keys.{Key, put, sort, each-sort, Differ, has, without, left-moves}

abbrev pub key : Entry → Key
key e = (e.number, e.order_count)

abbrev pub keys : List Entry → List Key
keys es = map key es

pub keys-append : (xs ys : List Entry) → keys (xs ++ ys) ≡ keys xs ++ keys ys
keys-append [] ys = refl
keys-append (e ∷ xs) ys = ap (λ (l : List Key). key e ∷ l) (keys-append xs ys)

-- with its latency count
abbrev pub Aged : Type 0
Aged = Key × ℕ

abbrev pub aged_key : Aged → Key
aged_key a = a.0

-- in stored order
abbrev pub aged : Buffer → List Aged
aged [] = []
aged (e ∷ es) = cond e.needed_for_output ((key e, e.latency_count) ∷ aged es) (aged es)

abbrev pub keys_of : List Aged → List Key
keys_of ws = map aged_key ws

abbrev pub waiting : Buffer → List Key
waiting es = keys_of (aged es)

aged-append : (xs ys : Buffer) → aged (xs ++ ys) ≡ aged xs ++ aged ys
aged-append [] ys = refl
aged-append (e ∷ xs) ys = by_test e.needed_for_output (aged-append xs ys)
  where
    by_test : (b : Bool) → aged (xs ++ ys) ≡ aged xs ++ aged ys
        → cond b ((key e, e.latency_count) ∷ aged (xs ++ ys)) (aged (xs ++ ys)) ≡ cond b
        ((key e, e.latency_count) ∷ aged xs) (aged xs) ++ aged ys
    by_test true h = ap (λ (l : List Aged). (key e, e.latency_count) ∷ l) h
    by_test false h = h

-- marks change nothing of it
Keeps : (Entry → Entry) → Type 0
Keeps f = (e : Entry)
    → ((f e).needed_for_output ≡ e.needed_for_output) × ((key (f e) ≡ key e) × ((f e).latency_count ≡ e.latency_count))

aged-map : (f : Entry → Entry) → Keeps f → (es : Buffer) → aged (map f es) ≡ aged es
unfolding Keeps
aged-map f keeps [] = refl
aged-map f keeps (e ∷ es) =
    ap (λ (b : Bool). cond b ((key (f e), (f e).latency_count) ∷ aged (map f es)) (aged (map f es))) (keeps e).0
    ∙ ap (λ (k : Key). cond e.needed_for_output ((k, (f e).latency_count) ∷ aged (map f es))
    (aged (map f es))) (keeps e).1.0
    ∙ ap (λ (n : ℕ). cond e.needed_for_output ((key e, n) ∷ aged (map f es)) (aged (map f es))) (keeps e).1.1
    ∙ ap (λ (l : List Aged). cond e.needed_for_output ((key e, e.latency_count) ∷ l) l) (aged-map f keeps es)

keeps-unmarked : Keeps unmarked
unfolding Keeps
keeps-unmarked e = (refl, (refl, refl))

keeps-long : (members : List (Option ℕ)) → Keeps (long_term_if members)
unfolding Keeps
keeps-long members e = by_test (names e.number members)
  where
    Same : Entry → Type 0
    Same f = (f.needed_for_output ≡ e.needed_for_output) × ((key f ≡ key e) × (f.latency_count ≡ e.latency_count))

    by_test : (b : Bool) → Same (cond b (record e { mark = LongTerm }) e)
    by_test true = (refl, (refl, refl))
    by_test false = (refl, (refl, refl))

keeps-kept : (members : List (Option ℕ)) → Keeps (marked_if members)
unfolding Keeps
keeps-kept members e = by_test (names e.number members)
  where
    Same : Entry → Type 0
    Same f = (f.needed_for_output ≡ e.needed_for_output) × ((key f ≡ key e) × (f.latency_count ≡ e.latency_count))

    by_test : (b : Bool) → Same (cond b e (unmarked e))
    by_test true = (refl, (refl, refl))
    by_test false = (refl, (refl, refl))

aged-references_before : (p : Head) (es : Buffer) → aged (references_before p es) ≡ aged es
aged-references_before p es = by_test p.starts_sequence
  where
    by_test : (b : Bool) → aged (cond b (map unmarked es) es) ≡ aged es
    by_test true = aged-map unmarked keeps-unmarked es
    by_test false = refl

pub aged-with_marks : (p : Head) (first : Slice) (es : Buffer) → aged (with_marks p first es) ≡ aged es
unfolding with_marks
aged-with_marks p first es =
    aged-map (marked_if (all_members (reference_set p first es)))
    (keeps-kept (all_members (reference_set p first es))) (with_long_term p first (references_before p es))
    ∙ aged-map (long_term_if (map (long_term_entry p first (references_before p es)) first.long_term_pics))
    (keeps-long (map (long_term_entry p first (references_before p es)) first.long_term_pics)) (references_before p es)
    ∙ aged-references_before p es

pub aged-needed : (es : Buffer) → aged (filter is_needed es) ≡ aged es
aged-needed [] = refl
aged-needed (e ∷ es) = by_tests e.needed_for_output (is_reference e.mark) refl (aged-needed es)
  where
    by_tests : (w r : Bool) → e.needed_for_output ≡ w → aged (filter is_needed es) ≡ aged es
        → aged (cond (w || r) (e ∷ filter is_needed es) (filter is_needed es)) ≡ cond w
        ((key e, e.latency_count) ∷ aged es) (aged es)
    by_tests true r is h =
        ap (λ (b : Bool). cond b ((key e, e.latency_count) ∷ aged (filter is_needed es))
        (aged (filter is_needed es))) is ∙ ap (λ (l : List Aged). (key e, e.latency_count) ∷ l) h
    by_tests false true is h =
        ap (λ (b : Bool). cond b ((key e, e.latency_count) ∷ aged (filter is_needed es))
        (aged (filter is_needed es))) is ∙ h
    by_tests false false is h = h

-- every store raises them, as far as they go
abbrev pub older : Aged → Aged
older a = (a.0, min (a.1 + 1) (2 ^ 31 - 1))

aged-with_latency : (es : Buffer) → aged (map with_latency es) ≡ map older (aged es)
aged-with_latency [] = refl
aged-with_latency (e ∷ es) = by_test e.needed_for_output (aged-with_latency es)
  where
    by_test : (b : Bool) → aged (map with_latency es) ≡ map older (aged es)
        → cond b ((key e, min (e.latency_count + 1) (2 ^ 31 - 1)) ∷ aged (map with_latency es))
        (aged (map with_latency es)) ≡ map older (cond b ((key e, e.latency_count) ∷ aged es) (aged es))
    by_test true h = ap (λ (l : List Aged). (key e, min (e.latency_count + 1) (2 ^ 31 - 1)) ∷ l) h
    by_test false h = h

-- what a picture adds once it is stored
abbrev pub stored_aged : Head → List Aged
stored_aged q = cond q.pic_output_flag (((q.number, q.order_count), 0) ∷ []) []

pub aged-stored : (q : Head) (es : Buffer) → aged (with_stored q es) ≡ map older (aged es) ++ stored_aged q
unfolding with_stored
aged-stored q es = aged-append (map with_latency es) (entry_of q ∷ [])
    ∙ ap (λ (l : List Aged). l ++ stored_aged q) (aged-with_latency es)

abbrev pub stored_key : Head → List Key
stored_key q = cond q.pic_output_flag ((q.number, q.order_count) ∷ []) []

pub waiting-stored : (q : Head) (es : Buffer) → waiting (with_stored q es) ≡ waiting es ++ stored_key q
waiting-stored q es = ap keys_of (aged-stored q es) ∙ older-append (aged es)
    ∙ ap (λ (l : List Key). waiting es ++ l) (by_test q.pic_output_flag)
  where
    older-append : (ws : List Aged) → keys_of (map older ws ++ stored_aged q) ≡ keys_of ws ++ keys_of (stored_aged q)
    older-append [] = refl
    older-append (a ∷ ws) = ap (λ (l : List Key). a.0 ∷ l) (older-append ws)

    by_test : (b : Bool)
        → keys_of (cond b (((q.number, q.order_count), 0) ∷ []) []) ≡ cond b ((q.number, q.order_count) ∷ []) []
    by_test true = refl
    by_test false = refl

keys-placed : (e : Entry) (es : List Entry) → keys (placed e es) ≡ put (key e) (keys es)
keys-placed e [] = refl
keys-placed e (f ∷ fs) = by_test (int_lt f.order_count e.order_count) (keys-placed e fs)
  where
    by_test : (b : Bool) → keys (placed e fs) ≡ put (key e) (keys fs)
        → keys (cond b (f ∷ placed e fs) (e ∷ f ∷ fs)) ≡ cond b (key f ∷ put (key e) (keys fs))
        (key e ∷ key f ∷ keys fs)
    by_test true h = ap (λ (l : List Key). key f ∷ l) h
    by_test false h = refl

pub keys-in_output_order : (es : Buffer) → keys (in_output_order es) ≡ sort (waiting es)
keys-in_output_order [] = refl
keys-in_output_order (e ∷ es) = by_test e.needed_for_output (keys-in_output_order es)
  where
    by_test : (b : Bool) → keys (in_output_order es) ≡ sort (waiting es)
        → keys (cond b (placed e (in_output_order es)) (in_output_order es)) ≡ sort
        (keys_of (cond b ((key e, e.latency_count) ∷ aged es) (aged es)))
    by_test true h = keys-placed e (in_output_order es) ∙ ap (λ (l : List Key). put (key e) l) h
    by_test false h = h

has_number-keys : (n : ℕ) (es : List Entry) → has_number n es ≡ has n (keys es)
has_number-keys n [] = refl
has_number-keys n (e ∷ es) = ap (λ (b : Bool). eqb e.number n || b) (has_number-keys n es)

-- those whose numbers aren't in a list
abbrev pub others_than : List Key → List Aged → List Aged
others_than out ws = filter (λ a. not (has a.0.0 out)) ws

-- whether an entry is output, whether it is needed for output, and whether it is referred to
aged-left : (e : Entry) (b w r : Bool) → e.needed_for_output ≡ w
    → aged (cond b (cond r (record e { needed_for_output = false } ∷ []) []) (e ∷ [])) ≡ cond w
    (cond (not b) ((key e, e.latency_count) ∷ []) []) []
aged-left e true true true is = refl
aged-left e true true false is = refl
aged-left e true false true is = refl
aged-left e true false false is = refl
aged-left e false true r is = ap (λ (b : Bool). cond b ((key e, e.latency_count) ∷ []) []) is
aged-left e false false r is = ap (λ (b : Bool). cond b ((key e, e.latency_count) ∷ []) []) is

pub aged-after : (out : List Entry) (es : Buffer) → aged (after_output out es) ≡ others_than (keys out) (aged es)
aged-after out [] = refl
aged-after out (e ∷ es) =
    aged-append (left_of (has_number e.number out) e) (after_output out es)
    ∙ ap (λ (l : List Aged). l ++ aged (after_output out es))
    (aged-left e (has_number e.number out) e.needed_for_output (is_reference e.mark) refl)
    ∙ ap (λ (l : List Aged). cond e.needed_for_output
    (cond (not (has_number e.number out)) ((key e, e.latency_count) ∷ []) []) [] ++ l) (aged-after out es)
    ∙ ap (λ (b : Bool). cond e.needed_for_output (cond (not b) ((key e, e.latency_count) ∷ []) []) []
    ++ others_than (keys out) (aged es)) (has_number-keys e.number out)
    ∙ by_test e.needed_for_output
  where
    rest : List Aged
    rest = others_than (keys out) (aged es)

    by_inner : (c : Bool)
        → cond c ((key e, e.latency_count) ∷ []) [] ++ rest ≡ cond c ((key e, e.latency_count) ∷ rest) rest
    by_inner true = refl
    by_inner false = refl

    by_test : (w : Bool)
        → cond w (cond (not (has e.number (keys out))) ((key e, e.latency_count) ∷ []) []) []
        ++ rest ≡ others_than (keys out) (cond w ((key e, e.latency_count) ∷ aged es) (aged es))
    by_test true = by_inner (not (has e.number (keys out)))
    by_test false = refl

keys-others : (out : List Key) (ws : List Aged) → keys_of (others_than out ws) ≡ without out (keys_of ws)
keys-others out [] = refl
keys-others out (a ∷ ws) = by_test (not (has a.0.0 out)) (keys-others out ws)
  where
    by_test : (b : Bool) → keys_of (others_than out ws) ≡ without out (keys_of ws)
        → keys_of (cond b (a ∷ others_than out ws) (others_than out ws)) ≡ cond b
        (a.0 ∷ without out (keys_of ws)) (without out (keys_of ws))
    by_test true h = ap (λ (l : List Key). a.0 ∷ l) h
    by_test false h = h

pub waiting-after : (out : List Entry) (es : Buffer) → waiting (after_output out es) ≡ without (keys out) (waiting es)
waiting-after out es = ap keys_of (aged-after out es) ∙ keys-others (keys out) (aged es)

-- the additional rule, by what is needed for output
abbrev pub late : Limits → Aged → Bool
late limits a = nat_le (latency_pictures limits) a.1

abbrev pub too_many : Limits → List Aged → Bool
too_many limits ws = nat_lt limits.max_num_reorder_pics (length ws)

abbrev pub too_late : Limits → List Aged → Bool
too_late limits ws = nat_lt 0 limits.max_latency_increase_plus1 && list_any (late limits) ws

abbrev pub is_due : Limits → List Aged → Bool
is_due limits ws = too_many limits ws || too_late limits ws

aged-count : (es : Buffer) → count_by (λ (e : Entry). e.needed_for_output) es ≡ length (aged es)
aged-count es = sym (is_count_by (λ (l : Buffer). length (aged l)) (λ (e : Entry). e.needed_for_output) refl step es)
  where
    step : (e : Entry) (l : Buffer)
        → length (aged (e ∷ l)) ≡ cond e.needed_for_output (1 + length (aged l)) (length (aged l))
    step e l = by_test e.needed_for_output
      where
        by_test : (b : Bool)
            → length (cond b ((key e, e.latency_count) ∷ aged l) (aged l)) ≡ cond b (1 + length (aged l))
            (length (aged l))
        by_test true = omega arith
        by_test false = refl

aged-late : (limits : Limits) (es : Buffer) → list_any (is_late limits) es ≡ list_any (late limits) (aged es)
aged-late limits [] = refl
aged-late limits (e ∷ es) = by_test e.needed_for_output (aged-late limits es)
  where
    by_test : (b : Bool) → list_any (is_late limits) es ≡ list_any (late limits) (aged es)
        → (b && nat_le (latency_pictures limits) e.latency_count) || list_any (is_late limits) es ≡ list_any
        (late limits) (cond b ((key e, e.latency_count) ∷ aged es) (aged es))
    by_test true h = ap (λ (t : Bool). nat_le (latency_pictures limits) e.latency_count || t) h
    by_test false h = h

pub rule-is : (limits : Limits) (es : Buffer) → needs_additional_bumping limits es ≡ is_due limits (aged es)
unfolding needs_additional_bumping
rule-is limits es =
    ap (λ (n : ℕ). nat_lt limits.max_num_reorder_pics n ||
    (nat_lt 0 limits.max_latency_increase_plus1 && list_any (is_late limits) es)) (aged-count es)
    ∙ ap (λ (t : Bool). too_many limits (aged es) || (nat_lt 0 limits.max_latency_increase_plus1 && t))
    (aged-late limits es)

pub due-nothing : (limits : Limits) → is_due limits [] ≡ false
due-nothing limits =
    by_tests (nat_lt limits.max_num_reorder_pics 0) (nat_lt 0 limits.max_latency_increase_plus1)
    (never limits.max_num_reorder_pics)
  where
    never : (n : ℕ) → nat_lt n 0 ≡ false
    never n = grind (arith, nat_tests)

    by_tests : (a b : Bool) → a ≡ false → a || (b && false) ≡ false
    by_tests true b h = absurd (cc h)
    by_tests false true h = refl
    by_tests false false h = refl

-- what a shortest front leaves
abbrev rest_of : {X : Type 0} → (List X → Bool) → List X → List X
rest_of passes [] = []
rest_of passes (x ∷ xs) = cond (passes []) (x ∷ xs) (rest_of (λ out. passes (x ∷ out)) xs)

front-rest : {X : Type 0} (passes : List X → Bool) (xs : List X) → shortest_front passes xs ++ rest_of passes xs ≡ xs
front-rest passes [] = refl
front-rest {X = X} passes (x ∷ xs) = by_test (passes []) (front-rest (λ out. passes (x ∷ out)) xs)
  where
    by_test : (b : Bool)
        → shortest_front (λ out. passes (x ∷ out)) xs ++ rest_of (λ out. passes (x ∷ out)) xs ≡ xs
        → cond b [] (x ∷ shortest_front (λ out. passes (x ∷ out)) xs)
        ++ cond b (x ∷ xs) (rest_of (λ out. passes (x ∷ out)) xs) ≡ x ∷ xs
    by_test true h = refl
    by_test false h = ap (λ (l : List X). x ∷ l) h

front-each : {X : Type 0} (Q : X → Type 0) (passes : List X → Bool) (xs : List X)
    → ((out : List X) (x : X) (rest : List X) → out ++ x ∷ rest ≡ xs → passes out ≡ false → Q x)
    → Each Q (shortest_front passes xs)
front-each Q passes [] h = tt
front-each {X = X} Q passes (x ∷ xs) h =
    by_test (passes []) refl (front-each Q (λ out. passes (x ∷ out)) xs
    (λ out y rest e f. h (x ∷ out) y rest (ap (λ (l : List X). x ∷ l) e) f))
  where
    by_test : (b : Bool) → passes [] ≡ b → Each Q (shortest_front (λ out. passes (x ∷ out)) xs)
        → Each Q (cond b [] (x ∷ shortest_front (λ out. passes (x ∷ out)) xs))
    by_test true is k = tt
    by_test false is k = (h [] x xs refl is, k)

front-ends : {X : Type 0} (passes : List X → Bool) (xs : List X)
    → (passes (shortest_front passes xs) ≡ true) ⊎ (shortest_front passes xs ≡ xs)
front-ends passes [] = inr refl
front-ends {X = X} passes (x ∷ xs) = by_test (passes []) refl (front-ends (λ front. passes (x ∷ front)) xs)
  where
    rest : List X
    rest = shortest_front (λ front. passes (x ∷ front)) xs

    by_test : (b : Bool) → passes [] ≡ b → (passes (x ∷ rest) ≡ true) ⊎ (rest ≡ xs)
        → (passes (cond b [] (x ∷ rest)) ≡ true) ⊎ (cond b [] (x ∷ rest) ≡ x ∷ xs)
    by_test true is h = inl is
    by_test false is h = ⊎_elim (λ k. inl k) (λ k. inr (ap (λ l. x ∷ l) k)) h

-- what is due by a rule is a prefix of what is needed for output, in output order
pub due_rest : (Buffer → Bool) → Buffer → List Entry
due_rest rule es = rest_of (λ out. not (rule (after_output out es))) (in_output_order es)

pub due-front : (rule : Buffer → Bool) (es : Buffer)
    → keys (due_outputs rule es) ++ keys (due_rest rule es) ≡ sort (waiting es)
unfolding due_outputs due_rest
due-front rule es =
    sym (keys-append (shortest_front passes (in_output_order es)) (rest_of passes (in_output_order es)))
    ∙ ap keys (front-rest passes (in_output_order es)) ∙ keys-in_output_order es
  where
    passes : List Entry → Bool
    passes out = not (rule (after_output out es))

-- and as each is output the rule holds
pub due-each : (P : Key → Type 0) (rule : Buffer → Bool) (es : Buffer)
    → ((out : List Entry) (x : Entry) (rest : List Entry) → out ++ x ∷ rest ≡ in_output_order es
    → rule (after_output out es) ≡ true → P (key x)) → Each P (keys (due_outputs rule es))
unfolding due_outputs
due-each P rule es h =
    each-keys (shortest_front passes (in_output_order es))
    (front-each (λ x. P (key x)) passes (in_output_order es)
    (λ out x rest e f. h out x rest e (holds (rule (after_output out es)) f)))
  where
    passes : List Entry → Bool
    passes out = not (rule (after_output out es))

    holds : (b : Bool) → not b ≡ false → b ≡ true
    holds true f = refl
    holds false f = absurd (cc f)

    each-keys : (xs : List Entry) → Each (λ x. P (key x)) xs → Each P (keys xs)
    each-keys [] k = tt
    each-keys (x ∷ xs) k = (k.0, each-keys xs k.1)

-- until it doesn't
pub due-quiet : (limits : Limits) (rule : Buffer → Bool) (es : Buffer) → Pairs Differ (waiting es)
    → ((bs : Buffer) → rule bs ≡ false → needs_additional_bumping limits bs ≡ false)
    → is_due limits (aged (after_output (due_outputs rule es) es)) ≡ false
unfolding due_outputs
due-quiet limits rule es differ holds = ⊎_elim
    (λ h. sym (rule-is limits (after_output out es))
    ∙ holds (after_output out es) (fails (rule (after_output out es)) h))
    (λ h. ap (λ (ws : List Aged). is_due limits ws) (empty (aged (after_output out es)) (none h)) ∙ due-nothing limits)
    (front-ends passes (in_output_order es))
  where
    passes : List Entry → Bool
    passes gone = not (rule (after_output gone es))

    out : List Entry
    out = shortest_front passes (in_output_order es)

    fails : (b : Bool) → not b ≡ true → b ≡ false
    fails true h = absurd (cc h)
    fails false h = refl

    empty : (ws : List Aged) → length (keys_of ws) ≡ 0 → ws ≡ []
    empty [] h = refl
    empty (a ∷ ws) h = absurd (omega (arith, h))

    none : out ≡ in_output_order es → length (waiting (after_output out es)) ≡ 0
    none h = ap length (waiting-after out es) ∙ length_permutation [] (without (keys out) (waiting es))
        (left-moves (waiting es) (keys out) [] differ (append-nil (keys out) ∙ ap keys h ∙ keys-in_output_order es))

-- the buffer once some were output, where those that are still needed for output aren't output before an order count
pub after-few : (c : ℤ) (out : List Entry) (es : Buffer) → Each (λ e. is_needed e ≡ true) es
    → Each (λ k. c ≤ℤ k.1) (waiting (after_output out es)) → length (after_output out es) ≤ length (needed_behind c es)
after-few c out [] needed h = omega arith
after-few c out (e ∷ es) needed h =
    by_tests (has_number e.number out) e.needed_for_output (is_reference e.mark) refl needed.0 own
    (after-few c out es needed.1 (each-right (λ k. c ≤ℤ k.1) (waiting (left_of (has_number e.number out) e))
    (waiting (after_output out es)) parts))
  where
    keys_append : (vs ws : List Aged) → keys_of (vs ++ ws) ≡ keys_of vs ++ keys_of ws
    keys_append [] ws = refl
    keys_append (v ∷ vs) ws = ap (λ (l : List Key). v.0 ∷ l) (keys_append vs ws)

    parts : Each (λ k. c ≤ℤ k.1) (waiting (left_of (has_number e.number out) e) ++ waiting (after_output out es))
    parts = subst (λ (ks : List Key). Each (λ k. c ≤ℤ k.1) ks)
        (ap keys_of (aged-append (left_of (has_number e.number out) e) (after_output out es))
        ∙ keys_append (aged (left_of (has_number e.number out) e)) (aged (after_output out es))) h

    own : Each (λ k. c ≤ℤ k.1) (waiting (left_of (has_number e.number out) e))
    own = each-left (λ k. c ≤ℤ k.1) (waiting (left_of (has_number e.number out) e))
        (waiting (after_output out es)) parts

    rest : Buffer
    rest = after_output out es

    with_own : (ys : Buffer) (b : Bool) → length ys ≤ cond b 1 0 → length rest ≤ length (needed_behind c es)
        → length (ys ++ rest) ≤ length (cond b (e ∷ needed_behind c es) (needed_behind c es))
    with_own ys true few k = let l = length-append ys rest in omega (arith, few, k, l)
    with_own ys false few k = let l = length-append ys rest in omega (arith, few, k, l)

    passes : (a b : ℤ) → a ≤ℤ b → int_le a b ≡ true
    passes a b h = grind (arith, ints)

    reached : e.needed_for_output ≡ true
        → Each (λ k. c ≤ℤ k.1) (keys_of (cond e.needed_for_output ((key e, e.latency_count) ∷ []) []))
        → int_le c e.order_count ≡ true
    reached is k =
        passes c e.order_count
        (subst (λ (b : Bool). Each (λ k. c ≤ℤ k.1) (keys_of (cond b ((key e, e.latency_count) ∷ []) []))) is k).0

    by_tests : (g w r : Bool) → e.needed_for_output ≡ w → w || r ≡ true
        → Each (λ k. c ≤ℤ k.1)
        (waiting (cond g (cond r (record e { needed_for_output = false } ∷ []) []) (e ∷ [])))
        → length rest ≤ length (needed_behind c es)
        → length (cond g (cond r (record e { needed_for_output = false } ∷ []) []) (e ∷ []) ++ rest)
        ≤ length (cond (r || (w && int_le c e.order_count)) (e ∷ needed_behind c es) (needed_behind c es))
    by_tests true w true is n k l = with_own (record e { needed_for_output = false } ∷ []) true (omega arith) l
    by_tests true w false is n k l = with_own [] (w && int_le c e.order_count) (omega arith) l
    by_tests false w true is n k l = with_own (e ∷ []) true (omega arith) l
    by_tests false true false is n k l =
        subst (λ (b : Bool). length ((e ∷ []) ++ rest) ≤ length
        (cond b (e ∷ needed_behind c es) (needed_behind c es))) (sym (reached is k))
        (with_own (e ∷ []) true (omega arith) l)
    by_tests false false false is n k l = absurd (cc n)

-- by any rule what is due waited, and what is left did
pub each-due : (P : Key → Type 0) (rule : Buffer → Bool) (es : Buffer) → Each P (waiting es)
    → Each P (keys (due_outputs rule es))
unfolding due_outputs
each-due P rule es h =
    shortest (λ out. not (rule (after_output out es))) (in_output_order es)
    (subst (λ (l : List Key). Each P l) (sym (keys-in_output_order es)) (each-sort P (waiting es) h))
  where
    shortest : (passes : List Entry → Bool) (xs : List Entry) → Each P (keys xs)
        → Each P (keys (shortest_front passes xs))
    shortest passes [] e = tt
    shortest passes (x ∷ xs) e = by_test (passes []) (shortest (λ out. passes (x ∷ out)) xs e.1)
      where
        by_test : (b : Bool) → Each P (keys (shortest_front (λ out. passes (x ∷ out)) xs))
            → Each P (keys (cond b [] (x ∷ shortest_front (λ out. passes (x ∷ out)) xs)))
        by_test true k = tt
        by_test false k = (e.0, k)

pub each-after : (P : Key → Type 0) (out : List Entry) (es : Buffer) → Each P (waiting es)
    → Each P (waiting (after_output out es))
each-after P out es h =
    subst (λ (l : List Key). Each P l) (sym (waiting-after out es))
    (each-filter P (λ k. not (has k.0 (keys out))) (waiting es) h)
