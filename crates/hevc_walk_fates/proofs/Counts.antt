-- How often a number waits for output in the buffer, and is output.
use Rattle.std.proofs.Common.{◌≡◌, ℕ, ◌+◌, ◌≤◌, Bool, true, false, not, cond, ◌&&◌, ◌||◌, eqb, List}
use Rattle.std.proofs.Common.{[], ◌∷◌, ◌++◌, map, filter, refl, sym, ◌∙◌, ap, subst, arith, Option}
use Rattle.std.proofs.Common.{Some, None}
use Rattle.std.specs.Prelude.{int_lt}
use Rattle.hevc_walk.specs.Meanings.{Format, Slice}
use Rattle.hevc_walk.specs.Pictures.{Head}
use Rattle.hevc_walk.specs.Buffer.{Entry, Buffer, LongTerm, is_reference, placed, in_output_order}
use Rattle.hevc_walk.specs.Buffer.{has_number, left_of, after_output, shortest_front, due_outputs}
use Rattle.hevc_walk.specs.Buffer.{bumping, draining, is_needed, with_stored, with_latency}
use Rattle.hevc_walk.specs.Buffer.{entry_of, needs_bumping, needs_additional_bumping}
use Rattle.hevc_walk.specs.ReferenceSets.{RefPicSet, with_marks, reference_set, with_long_term}
use Rattle.hevc_walk.specs.ReferenceSets.{references_before, marked_if, all_members, long_term_if}
use Rattle.hevc_walk.specs.ReferenceSets.{long_term_entry, unmarked, names}
use Rattle.hevc_walk.specs.Walk.{Event, Called, Output, output_of, Part, ◌>>=◌, nothing, Store}
use Rattle.hevc_walk.specs.Walk.{output_by, finish, store_picture, change_format, open_sequence}
use Rattle.hevc_walk.specs.Walk.{is_accepted, begin_picture, is_decoded, make_room, needed_entries}
use Rattle.hevc_walk.specs.Walk.{start_decoding}
use Rattle.hevc_walk.specs.Fates.{one, times, waiting_numbers, discarded_by}
use Rattle.hevc_walk_fates.proofs.Accepted.{equal_numbers}

pub one-le : (b : Bool) → one b ≤ 1
one-le true = omega arith
one-le false = omega arith

abbrev pub output_as : ℕ → List Entry → ℕ
output_as n [] = 0
output_as n (e ∷ es) = one (eqb e.number n) + output_as n es

abbrev pub waits_as : ℕ → Buffer → ℕ
waits_as n [] = 0
waits_as n (e ∷ es) = one (e.needed_for_output && eqb e.number n) + waits_as n es

abbrev pub given : ℕ → List Event → ℕ
given n [] = 0
given n (Called call ∷ es) = given n es
given n (Output number count ∷ es) = one (eqb number n) + given n es

pub given-append : (n : ℕ) (xs ys : List Event) → given n (xs ++ ys) ≡ given n xs + given n ys
given-append n [] ys = omega arith
given-append n (Called call ∷ xs) ys = given-append n xs ys
given-append n (Output number count ∷ xs) ys = let h = given-append n xs ys in omega (arith, h)

given-output : (n : ℕ) (es : List Entry) → given n (map output_of es) ≡ output_as n es
given-output n [] = refl
given-output n (e ∷ es) = ap (λ (m : ℕ). one (eqb e.number n) + m) (given-output n es)

waits-append : (n : ℕ) (xs ys : Buffer) → waits_as n (xs ++ ys) ≡ waits_as n xs + waits_as n ys
waits-append n [] ys = omega arith
waits-append n (e ∷ xs) ys = let h = waits-append n xs ys in omega (arith, h)

placed-as : (n : ℕ) (e : Entry) (es : Buffer) → output_as n (placed e es) ≡ one (eqb e.number n) + output_as n es
placed-as n e [] = refl
placed-as n e (f ∷ fs) = by_test (int_lt f.order_count e.order_count) (placed e fs) (placed-as n e fs)
  where
    by_test : (b : Bool) (p : List Entry) → output_as n p ≡ one (eqb e.number n) + output_as n fs
        → output_as n (cond b (f ∷ p) (e ∷ f ∷ fs)) ≡ one (eqb e.number n) + (one (eqb f.number n) + output_as n fs)
    by_test true p h = omega (arith, h)
    by_test false p h = refl

pub in_output_order-as : (n : ℕ) (es : Buffer) → output_as n (in_output_order es) ≡ waits_as n es
in_output_order-as n [] = refl
in_output_order-as n (e ∷ es) = by_test e.needed_for_output (in_output_order-as n es)
  where
    by_test : (b : Bool) → output_as n (in_output_order es) ≡ waits_as n es
        → output_as n (cond b (placed e (in_output_order es)) (in_output_order es)) ≡ one
        (b && eqb e.number n) + waits_as n es
    by_test true h = placed-as n e (in_output_order es) ∙ ap (λ (m : ℕ). one (eqb e.number n) + m) h
    by_test false h = omega (arith, h)

shortest_front-as : (n : ℕ) (passes : List Entry → Bool) (es : List Entry)
    → output_as n (shortest_front passes es) ≤ output_as n es
shortest_front-as n passes [] = omega arith
shortest_front-as n passes (e ∷ es) =
    by_test (passes []) (shortest_front (λ front. passes (e ∷ front)) es)
    (shortest_front-as n (λ front. passes (e ∷ front)) es)
  where
    by_test : (b : Bool) (s : List Entry) → output_as n s ≤ output_as n es
        → output_as n (cond b [] (e ∷ s)) ≤ one (eqb e.number n) + output_as n es
    by_test true s h = omega arith
    by_test false s h = omega (arith, h)

kept_by : (n : ℕ) (e : Entry) (b r : Bool)
    → waits_as n (cond b (cond r (record e { needed_for_output = false } ∷ []) []) (e ∷ [])) ≡ cond b 0
    (one (e.needed_for_output && eqb e.number n))
kept_by n e true true = refl
kept_by n e true false = refl
kept_by n e false r = omega arith

none_by : (b w : Bool) → cond b 0 (one (w && false)) ≡ 0
none_by true w = refl
none_by false true = refl
none_by false false = refl

kept-as : (n : ℕ) (output : List Entry) (e : Entry)
    → waits_as n (left_of (has_number e.number output) e) ≡ cond (has_number n output) 0
    (one (e.needed_for_output && eqb e.number n))
kept-as n output e = kept_by n e (has_number e.number output) (is_reference e.mark) ∙ by_test (eqb e.number n) refl
  where
    by_test : (c : Bool) → eqb e.number n ≡ c
        → cond (has_number e.number output) 0 (one (e.needed_for_output && c)) ≡ cond
        (has_number n output) 0 (one (e.needed_for_output && c))
    by_test true is = ap (λ (m : ℕ). cond (has_number m output) 0 (one (e.needed_for_output && true)))
        (equal_numbers e.number n is)
    by_test false is = none_by (has_number e.number output) e.needed_for_output
        ∙ sym (none_by (has_number n output) e.needed_for_output)

cond-sum : (b : Bool) (x y : ℕ) → cond b 0 x + cond b 0 y ≡ cond b 0 (x + y)
cond-sum true x y = refl
cond-sum false x y = refl

cond-zero : (b : Bool) → waits_as 0 [] ≡ cond b 0 0
cond-zero true = refl
cond-zero false = refl

after_output-as : (n : ℕ) (output es : List Entry)
    → waits_as n (after_output output es) ≡ cond (has_number n output) 0 (waits_as n es)
after_output-as n output [] = cond-zero (has_number n output)
after_output-as n output (e ∷ es) =
    waits-append n (left_of (has_number e.number output) e) (after_output output es)
    ∙ ap (λ (m : ℕ). m + waits_as n (after_output output es)) (kept-as n output e)
    ∙ ap (λ (m : ℕ). cond (has_number n output) 0 (one (e.needed_for_output && eqb e.number n)) + m)
    (after_output-as n output es)
    ∙ cond-sum (has_number n output) (one (e.needed_for_output && eqb e.number n)) (waits_as n es)

pub has-as : (n : ℕ) (es : List Entry) → cond (has_number n es) (1 ≤ output_as n es) (output_as n es ≡ 0)
has-as n [] = refl
has-as n (e ∷ es) = by_test (eqb e.number n) (has_number n es) (has-as n es)
  where
    by_test : (b h : Bool) → cond h (1 ≤ output_as n es) (output_as n es ≡ 0)
        → cond (b || h) (1 ≤ one b + output_as n es) (one b + output_as n es ≡ 0)
    by_test true h k = omega arith
    by_test false true k = omega (arith, k)
    by_test false false k = omega (arith, k)

bumping-as : (n : ℕ) (output es : List Entry) → output_as n output ≤ waits_as n es → waits_as n es ≤ 1
    → output_as n output + waits_as n (after_output output es) ≡ waits_as n es
bumping-as n output es few once =
    by_test (has_number n output) (output_as n output) (waits_as n es) (waits_as n (after_output output es))
    (has-as n output) (after_output-as n output es) few once
  where
    by_test : (b : Bool) (s w left : ℕ) → cond b (1 ≤ s) (s ≡ 0) → left ≡ cond b 0 w → s ≤ w → w ≤ 1 → s + left ≡ w
    by_test true s w left h k few once = omega arith
    by_test false s w left h k few once = omega arith

due_outputs-as : (n : ℕ) (rule : Buffer → Bool) (es : Buffer) → waits_as n es ≤ 1
    → output_as n (due_outputs rule es) + waits_as n (after_output (due_outputs rule es) es) ≡ waits_as n es
unfolding due_outputs
due_outputs-as n rule es once =
    bumping-as n (shortest_front (λ output. not (rule (after_output output es))) (in_output_order es)) es
    (subst (λ (m : ℕ). output_as n
    (shortest_front (λ output. not (rule (after_output output es))) (in_output_order es)) ≤ m)
    (in_output_order-as n es)
    (shortest_front-as n (λ output. not (rule (after_output output es))) (in_output_order es))) once

pub needed-as : (n : ℕ) (es : Buffer) → waits_as n (filter is_needed es) ≡ waits_as n es
needed-as n [] = refl
needed-as n (e ∷ es) = by_test e.needed_for_output (is_reference e.mark) refl (needed-as n es)
  where
    by_test : (w r : Bool) → e.needed_for_output ≡ w → waits_as n (filter is_needed es) ≡ waits_as n es
        → waits_as n (cond (w || r) (e ∷ filter is_needed es) (filter is_needed es)) ≡ one
        (w && eqb e.number n) + waits_as n es
    by_test true r is h = ap (λ (b : Bool). one (b && eqb e.number n) + waits_as n (filter is_needed es)) is
        ∙ ap (λ (m : ℕ). one (eqb e.number n) + m) h
    by_test false true is h =
        ap (λ (b : Bool). one (b && eqb e.number n) + waits_as n (filter is_needed es)) is ∙ omega (arith, h)
    by_test false false is h = omega (arith, h)

-- marks change nothing of what is needed for output
Keeps : (Entry → Entry) → Type 0
Keeps f = (e : Entry) → ((f e).needed_for_output ≡ e.needed_for_output) × ((f e).number ≡ e.number)

map-as : (n : ℕ) (f : Entry → Entry) → Keeps f → (es : Buffer) → waits_as n (map f es) ≡ waits_as n es
unfolding Keeps
map-as n f keeps [] = refl
map-as n f keeps (e ∷ es) =
    ap (λ (b : Bool). one (b && eqb (f e).number n) + waits_as n (map f es)) (keeps e).0
    ∙ ap (λ (m : ℕ). one (e.needed_for_output && eqb m n) + waits_as n (map f es)) (keeps e).1
    ∙ ap (λ (m : ℕ). one (e.needed_for_output && eqb e.number n) + m) (map-as n f keeps es)

keeps-with_latency : Keeps with_latency
unfolding Keeps
keeps-with_latency e = (refl, refl)

keeps-unmarked : Keeps unmarked
unfolding Keeps
keeps-unmarked e = (refl, refl)

keeps-long : (members : List (Option ℕ)) → Keeps (long_term_if members)
unfolding Keeps
keeps-long members e = by_test (names e.number members)
  where
    by_test : (b : Bool)
        → ((cond b (record e { mark = LongTerm }) e).needed_for_output ≡ e.needed_for_output)
        × ((cond b (record e { mark = LongTerm }) e).number ≡ e.number)
    by_test true = (refl, refl)
    by_test false = (refl, refl)

keeps-kept : (members : List (Option ℕ)) → Keeps (marked_if members)
unfolding Keeps
keeps-kept members e = by_test (names e.number members)
  where
    by_test : (b : Bool) → ((cond b e (unmarked e)).needed_for_output ≡ e.needed_for_output)
        × ((cond b e (unmarked e)).number ≡ e.number)
    by_test true = (refl, refl)
    by_test false = (refl, refl)

references_before-as : (n : ℕ) (p : Head) (es : Buffer) → waits_as n (references_before p es) ≡ waits_as n es
references_before-as n p es = by_test p.starts_sequence
  where
    by_test : (b : Bool) → waits_as n (cond b (map unmarked es) es) ≡ waits_as n es
    by_test true = map-as n unmarked keeps-unmarked es
    by_test false = refl

with_marks-as : (n : ℕ) (p : Head) (first : Slice) (es : Buffer) → waits_as n (with_marks p first es) ≡ waits_as n es
unfolding with_marks
with_marks-as n p first es =
    map-as n (marked_if (all_members (reference_set p first es)))
    (keeps-kept (all_members (reference_set p first es))) (with_long_term p first (references_before p es))
    ∙ map-as n (long_term_if (map (long_term_entry p first (references_before p es)) first.long_term_pics))
    (keeps-long (map (long_term_entry p first (references_before p es)) first.long_term_pics)) (references_before p es)
    ∙ references_before-as n p es

with_stored-as : (n : ℕ) (q : Head) (es : Buffer)
    → waits_as n (with_stored q es) ≡ waits_as n es + one (q.pic_output_flag && eqb q.number n)
unfolding with_stored
with_stored-as n q es = waits-append n (map with_latency es) (entry_of q ∷ [])
    ∙ ap (λ (m : ℕ). m + (one (q.pic_output_flag && eqb q.number n) + 0))
    (map-as n with_latency keeps-with_latency es) ∙ omega arith

-- whether a picture of this number is to be output once it is over
abbrev pub for_output : ℕ → Head → ℕ
for_output n q = one (not q.skipped && q.pic_output_flag && eqb q.number n)

abbrev pub to_come : ℕ → Option Head → ℕ
to_come n None = 0
to_come n (Some q) = for_output n q

abbrev Balanced : ℕ → Part Store → ℕ → Type 0
Balanced n part total = given n part.events + waits_as n part.next.buffer ≡ total

output_give : (n : ℕ) (rule : Buffer → Bool) (s : Store) → waits_as n s.buffer ≤ 1
    → Balanced n (output_by (bumping rule) s) (waits_as n s.buffer)
output_give n rule s once =
    ap (λ (m : ℕ). m + waits_as n (after_output (due_outputs rule s.buffer) s.buffer))
    (given-output n (due_outputs rule s.buffer)) ∙ due_outputs-as n rule s.buffer once

pub output_drain : (n : ℕ) (s : Store) → Balanced n (output_by draining s) (waits_as n s.buffer)
output_drain n s = let h = given-output n (in_output_order s.buffer) ∙ in_output_order-as n s.buffer in omega (arith, h)

pub store-balanced : (n : ℕ) (q : Head) (s : Store)
    → waits_as n s.buffer + one (q.pic_output_flag && eqb q.number n) ≤ 1
    → Balanced n (store_picture q s) (waits_as n s.buffer + one (q.pic_output_flag && eqb q.number n))
unfolding store_picture
store-balanced n q s once =
    let is = with_stored-as n q s.buffer in
    output_give n (needs_additional_bumping q.limits) (record s { buffer = with_stored q s.buffer })
    (subst (λ (m : ℕ). m ≤ 1) (sym is) once) ∙ is

pub finish-balanced : (n : ℕ) (q : Option Head) (s : Store) → waits_as n s.buffer + to_come n q ≤ 1
    → Balanced n (finish q s) (waits_as n s.buffer + to_come n q)
unfolding finish
finish-balanced n None s once = omega arith
finish-balanced n (Some q) s once = by_test q.skipped once
  where
    by_test : (b : Bool) → waits_as n s.buffer + one (not b && q.pic_output_flag && eqb q.number n) ≤ 1
        → Balanced n (cond b (nothing s) (store_picture q s))
        (waits_as n s.buffer + one (not b && q.pic_output_flag && eqb q.number n))
    by_test true h = omega arith
    by_test false h = store-balanced n q s h

pub change-balanced : (n : ℕ) (f : Format) (s : Store) → Balanced n (change_format f s) (waits_as n s.buffer)
unfolding change_format
change-balanced n f s = by_test (is_accepted f s.accepted)
  where
    by_test : (b : Bool)
        → Balanced n (cond b (nothing s) (output_by draining s >>= open_sequence f)) (waits_as n s.buffer)
    by_test true = omega arith
    by_test false = let h = output_drain n s in let k =
        given-append n (output_by draining s).events (open_sequence f (output_by draining s).next).events in
        omega (arith, h, k)

waiting_numbers-as : (n : ℕ) (es : Buffer) → times n (waiting_numbers es) ≡ waits_as n es
waiting_numbers-as n [] = refl
waiting_numbers-as n (e ∷ es) = by_test e.needed_for_output (waiting_numbers-as n es)
  where
    by_test : (b : Bool) → times n (waiting_numbers es) ≡ waits_as n es
        → times n (cond b (e.number ∷ waiting_numbers es) (waiting_numbers es)) ≡ one
        (b && eqb e.number n) + waits_as n es
    by_test true h = ap (λ (m : ℕ). one (eqb e.number n) + m) h
    by_test false h = omega (arith, h)

-- the part of a picture that is decoded, over the marked buffer
room-balanced : (n : ℕ) (p : Head) (set : RefPicSet) (s : Store) (total : ℕ) → waits_as n s.buffer ≡ total → total ≤ 1
    → given n ((make_room p s >>= start_decoding p set).events) +
    (times n (cond p.no_output_of_prior_pics (waiting_numbers s.buffer) []) + waits_as n
    (make_room p s >>= start_decoding p set).next.buffer) ≡ total
unfolding make_room start_decoding
room-balanced n p set s total is once = by_tests p.no_output_of_prior_pics p.starts_sequence
  where
    both : (part : Part Store) (lost : ℕ)
        → given n part.events + (lost + waits_as n part.next.buffer) ≡ total
        → given n (part >>= start_decoding p set).events +
        (lost + waits_as n (part >>= start_decoding p set).next.buffer) ≡ total
    both part lost h = let k = given-append n part.events (start_decoding p set part.next).events in omega (arith, h, k)

    room : Bool → Bool → Part Store
    room d r = cond d (nothing (record s { buffer = [] }))
        (cond r (output_by draining s)
        (output_by (bumping (needs_bumping p.limits)) (record s { buffer = needed_entries s.buffer })))

    by_tests : (d r : Bool)
        → given n (room d r >>= start_decoding p set).events +
        (times n (cond d (waiting_numbers s.buffer) []) + waits_as n
        (room d r >>= start_decoding p set).next.buffer) ≡ total
    by_tests true r = both (nothing (record s { buffer = [] })) (times n (waiting_numbers s.buffer))
        (let k = waiting_numbers-as n s.buffer in omega (arith, k, is))
    by_tests false true = both (output_by draining s) 0 (let k = output_drain n s in omega (arith, k, is))
    by_tests false false =
        let few = needed-as n s.buffer in
        let t = record s { buffer = needed_entries s.buffer } in
        both (output_by (bumping (needs_bumping p.limits)) t) 0
        (let k = output_give n (needs_bumping p.limits) t
        (subst (λ (m : ℕ). m ≤ 1) (sym (few ∙ is)) once) in omega (arith, k, few, is))

pub begin-balanced : (n : ℕ) (p : Head) (first : Slice) (s : Store) → waits_as n s.buffer ≤ 1
    → given n (begin_picture p first s).events +
    (times n (discarded_by p s) + waits_as n (begin_picture p first s).next.buffer) ≡ waits_as n s.buffer
unfolding begin_picture
begin-balanced n p first s once = by_test (is_decoded p)
  where
    marked : Store
    marked = record s { buffer = with_marks p first s.buffer }

    discarded-marked : (b : Bool)
        → times n (cond b (waiting_numbers s.buffer) []) ≡ times n (cond b (waiting_numbers marked.buffer) [])
    discarded-marked true = waiting_numbers-as n s.buffer ∙ sym (with_marks-as n p first s.buffer)
        ∙ sym (waiting_numbers-as n (with_marks p first s.buffer))
    discarded-marked false = refl

    by_test : (b : Bool)
        → given n (cond b (make_room p marked >>= start_decoding p (reference_set p first s.buffer))
        (nothing s)).events +
        (times n (cond (b && p.no_output_of_prior_pics) (waiting_numbers s.buffer) []) + waits_as n
        (cond b (make_room p marked >>= start_decoding p (reference_set p first s.buffer))
        (nothing s)).next.buffer) ≡ waits_as n s.buffer
    by_test true = let h = room-balanced n p (reference_set p first s.buffer) marked (waits_as n s.buffer)
        (with_marks-as n p first s.buffer) once in let k = discarded-marked p.no_output_of_prior_pics in
        omega (arith, h, k)
    by_test false = omega arith
