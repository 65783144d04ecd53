-- Bumping the first in order, again and again, outputs the shortest front.
use Rattle.std.proofs.Common.{◌≡◌, ◌≢◌, ℕ, Bool, true, false, not, cond, ◌||◌, eqb, List, [], ◌∷◌}
use Rattle.std.proofs.Common.{◌++◌, take, refl, sym, ◌∙◌, ap, subst, arith}
use Rattle.std.specs.Prelude.{int_lt}
use Rattle.std.proofs.lemmas.Bool.Decides.{nat_tests}
use Rattle.hevc_walk.specs.Buffer.{Entry, Buffer, is_reference, placed, in_output_order, has_number}
use Rattle.hevc_walk.specs.Buffer.{left_of, after_output, shortest_front, due_outputs, bumping}
use Rattle.hevc_walk_bumps.specs.Steps.{Absent, Distinct, after_one, nothing_output, output_before}

other : (n m : ℕ) → n ≢ m → (eqb n m || false) ≡ false
other n m ne = grind (arith, nat_tests)

same : (n : ℕ) → (eqb n n || false) ≡ true
same n = grind (arith, nat_tests)

equal_numbers : (m n : ℕ) → eqb m n ≡ true → m ≡ n
equal_numbers m n is = grind (arith, nat_tests)

absent_placed : (n : ℕ) (e : Entry) (es : List Entry) → e.number ≢ n → Absent n es → Absent n (placed e es)
absent_placed n e [] ne h = (ne, tt)
absent_placed n e (f ∷ fs) ne h =
    by_test n e f fs (placed e fs) (int_lt f.order_count e.order_count) ne h (absent_placed n e fs ne h.1)
  where
    by_test : (n : ℕ) (e f : Entry) (fs p : List Entry) (b : Bool) → e.number ≢ n → Absent n (f ∷ fs)
        → Absent n p → Absent n (cond b (f ∷ p) (e ∷ f ∷ fs))
    by_test n e f fs p true ne h k = (h.0, k)
    by_test n e f fs p false ne h k = (ne, h)

absent_in_output_order : (n : ℕ) (es : List Entry) → Absent n es → Absent n (in_output_order es)
absent_in_output_order n [] h = tt
absent_in_output_order n (e ∷ es) h =
    by_test n e (in_output_order es) e.needed_for_output h.0 (absent_in_output_order n es h.1)
  where
    by_test : (n : ℕ) (e : Entry) (p : List Entry) (b : Bool) → e.number ≢ n → Absent n p
        → Absent n (cond b (placed e p) p)
    by_test n e p true ne k = absent_placed n e p ne k
    by_test n e p false ne k = k

-- outputting an entry that isn't there changes nothing
output_absent : (e : Entry) (es : List Entry) → Absent e.number es → after_output (e ∷ []) es ≡ es
output_absent e [] h = refl
output_absent e (f ∷ fs) h =
    ap (λ b. left_of b f ++ after_output (e ∷ []) fs) (other e.number f.number (λ is. h.0 (sym is)))
    ∙ ap (λ l. f ∷ l) (output_absent e fs h.1)

output_other : (e f : Entry) (fs : List Entry) → f.number ≢ e.number
    → after_output (e ∷ []) (f ∷ fs) ≡ f ∷ after_output (e ∷ []) fs
output_other e f fs ne = ap (λ b. left_of b f ++ after_output (e ∷ []) fs) (other e.number f.number (λ is. ne (sym is)))

kept_order : (b : Bool) (e : Entry) (es : List Entry)
    → in_output_order (cond b (record e { needed_for_output = false } ∷ []) [] ++ es) ≡ in_output_order es
kept_order true e es = refl
kept_order false e es = refl

-- the entry itself is outputs
output_self : (e : Entry) (es : List Entry) → Absent e.number es
    → in_output_order (after_output (e ∷ []) (e ∷ es)) ≡ in_output_order es
output_self e es h =
    ap (λ b. in_output_order (left_of b e ++ after_output (e ∷ []) es)) (same e.number)
    ∙ ap (λ l. in_output_order (left_of true e ++ l)) (output_absent e es h)
    ∙ kept_order (is_reference e.mark) e es

head_number : (n : ℕ) (e : Entry) (rest es : List Entry) → es ≡ e ∷ rest → Absent n es → e.number ≢ n
head_number n e rest es is h = (subst (Absent n) is h).0

Leaves : Entry → List Entry → List Entry → Type 0
Leaves e es rest = in_output_order (after_output (e ∷ []) es) ≡ rest

Then : List Entry → Type 0
Then es = (e : Entry) (rest : List Entry) → in_output_order es ≡ e ∷ rest → Leaves e es rest

behind_other : (e x : Entry) (xs rest : List Entry) (b : Bool) → x.needed_for_output ≡ b
    → x.number ≢ e.number → Leaves e xs rest → Leaves e (x ∷ xs) (cond b (placed x rest) rest)
unfolding Leaves
behind_other e x xs rest b waits ne h = ap in_output_order (output_other e x xs ne)
    ∙ ap (λ c. cond c (placed x (in_output_order (after_output (e ∷ []) xs)))
    (in_output_order (after_output (e ∷ []) xs))) waits ∙ ap (λ l. cond b (placed x l) l) h

by_test : (x : Entry) (xs : List Entry) → Distinct (x ∷ xs) → x.needed_for_output ≡ true → Then xs
    → (e f : Entry) (rest fs : List Entry) → in_output_order xs ≡ f ∷ fs
    → (b : Bool) → cond b (f ∷ placed x fs) (x ∷ f ∷ fs) ≡ e ∷ rest → Leaves e (x ∷ xs) rest
unfolding Leaves Then
by_test x xs d waits further e f rest fs is true goes =
    let ne : f.number ≢ x.number =
    head_number x.number f fs (in_output_order xs) is (absent_in_output_order x.number xs d.0) in
    let first : f ≡ e = cc in
    let last : placed x fs ≡ rest = cc in
    subst (λ (v : Entry). in_output_order (after_output (v ∷ []) (x ∷ xs)) ≡ rest) first
    (behind_other f x xs fs true waits (λ same. ne (sym same)) (further f fs is) ∙ last)
by_test x xs d waits further e f rest fs is false goes =
    let first : x ≡ e = cc in
    let last : f ∷ fs ≡ rest = cc in
    subst (λ (v : Entry). in_output_order (after_output (v ∷ []) (x ∷ xs)) ≡ rest) first
    (output_self x xs d.0 ∙ is ∙ last)

by_rest : (x : Entry) (xs : List Entry) → Distinct (x ∷ xs) → x.needed_for_output ≡ true → Then xs
    → (e : Entry) (rest l : List Entry) → in_output_order xs ≡ l → placed x l ≡ e ∷ rest → Leaves e (x ∷ xs) rest
unfolding Leaves
by_rest x xs d waits further e rest [] is goes =
    let first : x ≡ e = cc in
    let last : [] ≡ rest = cc in
    subst (λ (v : Entry). in_output_order (after_output (v ∷ []) (x ∷ xs)) ≡ rest) first
    (output_self x xs d.0 ∙ is ∙ last)
by_rest x xs d waits further e rest (f ∷ fs) is goes =
    by_test x xs d waits further e f rest fs is (int_lt f.order_count x.order_count) goes

by_wait : (x : Entry) (xs : List Entry) → Distinct (x ∷ xs) → Then xs
    → (e : Entry) (rest : List Entry) (b : Bool) → x.needed_for_output ≡ b
    → cond b (placed x (in_output_order xs)) (in_output_order xs) ≡ e ∷ rest → Leaves e (x ∷ xs) rest
unfolding Then
by_wait x xs d further e rest true waits goes = by_rest x xs d waits further e rest (in_output_order xs) refl goes
by_wait x xs d further e rest false waits goes =
    let ne : e.number ≢ x.number =
    head_number x.number e rest (in_output_order xs) goes (absent_in_output_order x.number xs d.0) in
    behind_other e x xs rest false waits (λ same. ne (sym same)) (further e rest goes)

-- without the first in order, the rest is in order
pub bump_first : (es : List Entry) → Distinct es → (e : Entry) (rest : List Entry)
    → in_output_order es ≡ e ∷ rest → in_output_order (after_output (e ∷ []) es) ≡ rest
unfolding Leaves Then
bump_first [] d e rest is = absurd (cc is)
bump_first (x ∷ xs) d e rest is = by_wait x xs d (bump_first xs d.1) e rest x.needed_for_output refl is

output_none : (es : List Entry) → after_output [] es ≡ es
output_none [] = refl
output_none (e ∷ es) = ap (λ l. e ∷ l) (output_none es)

has_absent : (n : ℕ) (es : List Entry) → Absent n es → has_number n es ≡ false
has_absent n [] h = refl
has_absent n (e ∷ es) h = ap (λ b. eqb e.number n || b) (has_absent n es h.1) ∙ other e.number n h.0

keep_output : (c : Bool) (x : Entry) (ps xs : List Entry) → has_number x.number ps ≡ false
    → after_output ps (cond c (record x { needed_for_output = false } ∷ []) [] ++ xs) ≡ cond c
    (record x { needed_for_output = false } ∷ []) [] ++ after_output ps xs
keep_output true x ps xs none = ap (λ b. left_of b (record x { needed_for_output = false }) ++ after_output ps xs) none
keep_output false x ps xs none = refl

output_two : (e x : Entry) (ps xs : List Entry) (b : Bool) → eqb e.number x.number ≡ b → Absent e.number ps
    → after_output ps (left_of (b || false) x ++ xs) ≡ left_of (b || has_number x.number ps) x ++ after_output ps xs
output_two e x ps xs true is absent =
    keep_output (is_reference x.mark) x ps xs
    (has_absent x.number ps (subst (λ (n : ℕ). Absent n ps) (equal_numbers e.number x.number is) absent))
output_two e x ps xs false is absent = refl

-- some after one
pub output_then : (e : Entry) (ps es : List Entry) → Absent e.number ps
    → after_output ps (after_output (e ∷ []) es) ≡ after_output (e ∷ ps) es
output_then e ps [] absent = refl
output_then e ps (x ∷ xs) absent =
    output_two e x ps (after_output (e ∷ []) xs) (eqb e.number x.number) refl absent
    ∙ ap (λ l. left_of (eqb e.number x.number || has_number x.number ps) x ++ l) (output_then e ps xs absent)

shortest_front_same : (n : ℕ) (p q : List Entry → Bool)
    → ((front : List Entry) → Absent n front → p front ≡ q front) → (xs : List Entry) → Absent n xs
    → shortest_front p xs ≡ shortest_front q xs
shortest_front_same n p q agree [] absent = refl
shortest_front_same n p q agree (x ∷ xs) absent =
    ap (λ b. cond b [] (x ∷ shortest_front (λ front. p (x ∷ front)) xs)) (agree [] tt)
    ∙ ap (λ l. cond (q []) [] (x ∷ l)) (shortest_front_same n (λ front. p (x ∷ front))
    (λ front. q (x ∷ front)) (λ front h. agree (x ∷ front) (absent.0, h)) xs absent.1)

absent_shortest_front : (n : ℕ) (p : List Entry → Bool) (xs : List Entry) → Absent n xs → Absent n (shortest_front p xs)
absent_shortest_front n p [] h = tt
absent_shortest_front n p (x ∷ xs) h =
    cut n x (shortest_front (λ front. p (x ∷ front)) xs) (p []) h.0
    (absent_shortest_front n (λ front. p (x ∷ front)) xs h.1)
  where
    cut : (n : ℕ) (x : Entry) (l : List Entry) (b : Bool) → x.number ≢ n → Absent n l → Absent n (cond b [] (x ∷ l))
    cut n x l true ne h = tt
    cut n x l false ne h = (ne, h)

module _ (rule : Buffer → Bool) (es : List Entry) (e : Entry) (rest : List Entry) (distinct : Distinct es)
    (is : in_output_order es ≡ e ∷ rest) (absent : Absent e.number rest) where
  next : List Entry
  next = after_output (e ∷ []) es

  -- one more is due, and then what is due of the rest
  pub due_more : rule es ≡ true → due_outputs rule es ≡ e ∷ due_outputs rule (after_output (e ∷ []) es)
  unfolding due_outputs next
  due_more holds =
      ap (shortest_front (λ outputs. not (rule (after_output outputs es)))) is
      ∙ ap (λ b. cond b [] (e ∷ shortest_front (λ front. not (rule (after_output (e ∷ front) es))) rest))
      (ap (λ l. not (rule l)) (output_none es) ∙ ap not holds)
      ∙ ap (λ l. e ∷ l)
      (shortest_front_same e.number (λ front. not (rule (after_output (e ∷ front) es)))
      (λ front. not (rule (after_output front next)))
      (λ front h. ap (λ l. not (rule l)) (sym (output_then e front es h))) rest absent
      ∙ ap (shortest_front (λ front. not (rule (after_output front next)))) (sym (bump_first es distinct e rest is)))

  absent_due : Absent e.number (due_outputs rule (after_output (e ∷ []) es))
  unfolding due_outputs
  absent_due = absent_shortest_front e.number _ (in_output_order (after_output (e ∷ []) es))
      (subst (Absent e.number) (sym (bump_first es distinct e rest is)) absent)

  pub left_more : rule es ≡ true
      → after_output (due_outputs rule es) es ≡ after_output (due_outputs rule (after_output (e ∷ []) es))
      (after_output (e ∷ []) es)
  left_more holds = ap (λ outputs. after_output outputs es) (due_more holds)
      ∙ sym (output_then e (due_outputs rule (after_output (e ∷ []) es)) es absent_due)

-- none is due where the rule is false
pub due_none : (rule : Buffer → Bool) (es : List Entry) → rule es ≡ false → due_outputs rule es ≡ []
unfolding due_outputs
due_none rule es holds = by_list (in_output_order es)
  where
    by_list : (xs : List Entry) → shortest_front (λ outputs. not (rule (after_output outputs es))) xs ≡ []
    by_list [] = refl
    by_list (x ∷ xs) =
        ap (λ b. cond b [] (x ∷ shortest_front (λ front. not (rule (after_output (x ∷ front) es))) xs))
        (ap (λ l. not (rule l)) (output_none es) ∙ ap not holds)

distinct_by_test : (e f : Entry) (fs p : List Entry) (b : Bool) → Absent e.number (f ∷ fs)
    → Distinct (f ∷ fs) → Absent f.number p → Distinct p → Distinct (cond b (f ∷ p) (e ∷ f ∷ fs))
distinct_by_test e f fs p true absent d a k = (a, k)
distinct_by_test e f fs p false absent d a k = (absent, d)

distinct_placed : (e : Entry) (fs : List Entry) → Absent e.number fs → Distinct fs → Distinct (placed e fs)
distinct_placed e [] absent d = (tt, tt)
distinct_placed e (f ∷ fs) absent d =
    distinct_by_test e f fs (placed e fs) (int_lt f.order_count e.order_count) absent d
    (absent_placed f.number e fs (λ is. absent.0 (sym is)) d.0) (distinct_placed e fs absent.1 d.1)

distinct_by_wait : (e : Entry) (p : List Entry) (b : Bool) → Absent e.number p → Distinct p
    → Distinct (cond b (placed e p) p)
distinct_by_wait e p true a d = distinct_placed e p a d
distinct_by_wait e p false a d = d

distinct_in_order : (es : List Entry) → Distinct es → Distinct (in_output_order es)
distinct_in_order [] d = tt
distinct_in_order (e ∷ es) d =
    distinct_by_wait e (in_output_order es) e.needed_for_output (absent_in_output_order e.number es d.0)
    (distinct_in_order es d.1)

-- What one more output does.
pub record BumpsOn (rule : Buffer → Bool) (es : Buffer) (e : Entry) : Type 0 where
  pub due : due_outputs rule es ≡ e ∷ due_outputs rule (after_output (e ∷ []) es)
  pub left : after_output (due_outputs rule es) es ≡ after_output
      (due_outputs rule (after_output (e ∷ []) es)) (after_output (e ∷ []) es)

pub bumps_on : (rule : Buffer → Bool) (es : Buffer) (e : Entry) (rest : List Entry) → Distinct es
    → in_output_order es ≡ e ∷ rest → rule es ≡ true → BumpsOn rule es e
bumps_on rule es e rest distinct is holds =
    let absent : Absent e.number rest = (subst Distinct is (distinct_in_order es distinct)).0 in
    record {
      due = due_more rule es e rest distinct is absent holds;
      left = left_more rule es e rest distinct is absent holds;
    }

-- nothing more is due
pub due_ended : (rule : Buffer → Bool) (es : Buffer) → rule es ≡ false → after_output (due_outputs rule es) es ≡ es
due_ended rule es holds = ap (λ l. after_output l es) (due_none rule es holds) ∙ output_none es

-- nothing is needed for output
pub none_waits : (rule : Buffer → Bool) (es : Buffer) → in_output_order es ≡ [] → due_outputs rule es ≡ []
unfolding due_outputs
none_waits rule es is = ap (shortest_front (λ outputs. not (rule (after_output outputs es)))) is

pub none_left : (rule : Buffer → Bool) (es : Buffer) → in_output_order es ≡ []
    → after_output (due_outputs rule es) es ≡ es
none_left rule es is = ap (λ l. after_output l es) (none_waits rule es is) ∙ output_none es

-- ---- in steps

first_output : (es : Buffer) (e : Entry) (rest : List Entry) → in_output_order es ≡ e ∷ rest
    → after_output (e ∷ []) es ≡ after_one es
first_output es e rest is = sym (ap (λ (l : List Entry). after_output (take 1 l) es) is)

pub one_more : (rule : Buffer → Bool) (es : Buffer) (e : Entry) (rest : List Entry) → Distinct es
    → in_output_order es ≡ e ∷ rest → rule es ≡ true → bumping rule es ≡ output_before e (bumping rule (after_one es))
one_more rule es e rest distinct is holds =
    let on = bumps_on rule es e rest distinct is holds in
    let first = first_output es e rest is in
    ap (λ (l : Buffer). record { outputs = due_outputs rule es; left = l })
    (on.left ∙ ap (λ (l : Buffer). after_output (due_outputs rule l) l) first)
    ∙ ap (λ (l : List Entry). record {
      outputs = l;
      left = after_output (due_outputs rule (after_one es)) (after_one es);
    }) (on.due ∙ ap (λ (l : Buffer). e ∷ due_outputs rule l) first)

pub over : (rule : Buffer → Bool) (es : Buffer) → rule es ≡ false → bumping rule es ≡ nothing_output es
over rule es holds =
    ap (λ (l : Buffer). record { outputs = due_outputs rule es; left = l }) (due_ended rule es holds)
    ∙ ap (λ (l : List Entry). record { outputs = l; left = es }) (due_none rule es holds)

pub none_left_waiting : (rule : Buffer → Bool) (es : Buffer) → in_output_order es ≡ []
    → bumping rule es ≡ nothing_output es
none_left_waiting rule es is =
    ap (λ (l : Buffer). record { outputs = due_outputs rule es; left = l }) (none_left rule es is)
    ∙ ap (λ (l : List Entry). record { outputs = l; left = es }) (none_waits rule es is)

pub order_after_one : (es : Buffer) (e : Entry) (rest : List Entry) → Distinct es
    → in_output_order es ≡ e ∷ rest → in_output_order (after_one es) ≡ rest
order_after_one es e rest distinct is = ap in_output_order (sym (first_output es e rest is))
    ∙ bump_first es distinct e rest is

left_by : (b r : Bool) (e : Entry) (fs : Buffer) (n : ℕ) → e.number ≢ n → Absent n fs
    → Absent n (cond b (cond r (record e { needed_for_output = false } ∷ []) []) (e ∷ []) ++ fs)
left_by true true e fs n ne h = (ne, h)
left_by true false e fs n ne h = h
left_by false r e fs n ne h = (ne, h)

absent_after : (n : ℕ) (ps es : List Entry) → Absent n es → Absent n (after_output ps es)
absent_after n ps [] h = tt
absent_after n ps (e ∷ es) h =
    left_by (has_number e.number ps) (is_reference e.mark) e (after_output ps es) n h.0 (absent_after n ps es h.1)

distinct_left_by : (b r : Bool) (e : Entry) (fs : Buffer) → Absent e.number fs → Distinct fs
    → Distinct (cond b (cond r (record e { needed_for_output = false } ∷ []) []) (e ∷ []) ++ fs)
distinct_left_by true true e fs a d = (a, d)
distinct_left_by true false e fs a d = d
distinct_left_by false r e fs a d = (a, d)

pub distinct_after : (ps es : List Entry) → Distinct es → Distinct (after_output ps es)
distinct_after ps [] d = tt
distinct_after ps (e ∷ es) d =
    distinct_left_by (has_number e.number ps) (is_reference e.mark) e (after_output ps es)
    (absent_after e.number ps es d.0) (distinct_after ps es d.1)
