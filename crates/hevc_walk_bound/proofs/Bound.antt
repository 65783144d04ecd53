-- In a clean stream the buffer has room for each picture.
use Rattle.std.proofs.Common.{◌≡◌, ◌⊎◌, inl, inr, ⊎_elim, ℕ, ◌+◌, ◌≤◌, ◌<◌, Bool, true, false, not}
use Rattle.std.proofs.Common.{cond, ◌&&◌, ◌||◌, eqb, List, [], ◌∷◌, ◌++◌, length, map, filter, refl}
use Rattle.std.proofs.Common.{sym, ◌∙◌, ap, subst, arith, Option, Some, None, Ok, length-append}
use Rattle.std.specs.Prelude.{nat_le}
use Rattle.std.proofs.lemmas.List.{length-map}
use Rattle.std.proofs.lemmas.Bool.Decides.{nat_tests}
use Rattle.hevc_spec.specs.UnitTypes.{is_idr}
use Rattle.hevc_walk.specs.Meanings.{Format, Slice, Meaning, CodedSlice, Refused, SequenceSet}
use Rattle.hevc_walk.specs.Meanings.{EndOfSequence, EndOfBitstream, Other, ShortTermMember}
use Rattle.hevc_walk.specs.Meanings.{LongTermMember}
use Rattle.hevc_walk.specs.DependentSlices.{whole_slice}
use Rattle.hevc_walk.specs.Pictures.{Head, Picture, Stream, context, head, order_count_in_range}
use Rattle.hevc_walk.specs.Pictures.{new_picture, with_unit, with_slice, with_whole}
use Rattle.hevc_walk.specs.Pictures.{with_sequence_end, with_bitstream_end, nothing_yet, pictures}
use Rattle.hevc_walk.specs.Pictures.{stream_from}
use Rattle.hevc_walk.specs.Buffer.{Entry, Buffer, LongTerm, is_reference, in_output_order}
use Rattle.hevc_walk.specs.Buffer.{has_number, left_of, after_output, shortest_front, due_outputs}
use Rattle.hevc_walk.specs.Buffer.{bumping, draining, is_needed, with_stored, with_latency}
use Rattle.hevc_walk.specs.Buffer.{entry_of, needs_bumping, needs_additional_bumping}
use Rattle.hevc_walk.specs.ReferenceSets.{with_marks, reference_set, short_term_set, with_long_term}
use Rattle.hevc_walk.specs.ReferenceSets.{references_before, marked_if, all_members, long_term_if}
use Rattle.hevc_walk.specs.ReferenceSets.{long_term_entry, short_term_entry, unmarked, names}
use Rattle.hevc_walk.specs.ReferenceSets.{five_lists, is_curr_long_term, is_curr_short_term}
use Rattle.hevc_walk.specs.ReferenceSets.{no_references}
use Rattle.hevc_walk.specs.Walk.{Part, ◌>>=◌, nothing, Store, output_by, finish, store_picture}
use Rattle.hevc_walk.specs.Walk.{change_format, open_sequence, is_accepted, begin_picture}
use Rattle.hevc_walk.specs.Walk.{is_decoded, make_room, needed_entries, start_decoding, store}
use Rattle.hevc_walk.specs.Walk.{latest_head, is_full, full_store, accepted_size, earlier_of}
use Rattle.hevc_walk.specs.Refusals.{Cause, PocOutOfRange, refusal, refusal_of_slice}
use Rattle.hevc_walk.specs.Refusals.{refusal_of_whole, refusal_of_picture, refusal_of_later, stop}
use Rattle.hevc_walk.specs.Refusals.{first_refusal, stop_from, covered_stream}
use Rattle.hevc_walk.specs.Results.{verdict, full_or, stop_or, full, full_at_end}
use Rattle.hevc_walk.specs.Fates.{one}
use Rattle.hevc_walk.specs.Clean.{num_members, AllClean, IsClean}
use Rattle.hevc_walk_fates.proofs.Numbers.{Numbered, covered-numbered, covered_all, stream-numbered}
use Rattle.hevc_walk_fates.proofs.Counts.{one-le, output_as, waits_as, in_output_order-as, needed-as, has-as}
use Rattle.hevc_walk_fates.proofs.Accepted.{accepted_is}
use Rattle.hevc_walk_bound.specs.Stores.{StoresFew}

-- how many entries have this number
numbers_as : ℕ → Buffer → ℕ
numbers_as n [] = 0
numbers_as n (e ∷ es) = one (eqb e.number n) + numbers_as n es

-- how many have a mark
marks : Buffer → ℕ
marks [] = 0
marks (e ∷ es) = one (is_reference e.mark) + marks es

named : List (Option ℕ) → Buffer → ℕ
named ms [] = 0
named ms (e ∷ es) = one (names e.number ms) + named ms es

named-none : (es : Buffer) → named [] es ≡ 0
unfolding named
named-none [] = refl
named-none (e ∷ es) = let h = named-none es in omega (arith, h)

eqb-sym : (m n : ℕ) → eqb m n ≡ eqb n m
eqb-sym m n = by_test (eqb m n) (eqb n m) refl refl
  where
    by_test : (b c : Bool) → eqb m n ≡ b → eqb n m ≡ c → b ≡ c
    by_test true true p q = refl
    by_test false false p q = refl
    by_test true false p q = grind (arith, nat_tests)
    by_test false true p q = grind (arith, nat_tests)

named-skip : (ms : List (Option ℕ)) (es : Buffer) → named (None ∷ ms) es ≡ named ms es
unfolding named
named-skip ms [] = refl
named-skip ms (e ∷ es) = ap (λ (n : ℕ). one (names e.number ms) + n) (named-skip ms es)

named-more : (m : ℕ) (ms : List (Option ℕ)) (es : Buffer) → named (Some m ∷ ms) es ≤ numbers_as m es + named ms es
unfolding named numbers_as
named-more m ms [] = omega arith
named-more m ms (e ∷ es) =
    by_test (eqb m e.number) (eqb e.number m) (names e.number ms) (eqb-sym m e.number) (named-more m ms es)
  where
    by_test : (b c d : Bool) → b ≡ c → named (Some m ∷ ms) es ≤ numbers_as m es + named ms es
        → one (b || d) + named (Some m ∷ ms) es ≤ one c + numbers_as m es + (one d + named ms es)
    by_test true true true is h = omega (arith, h)
    by_test true true false is h = omega (arith, h)
    by_test true false d is h = absurd (cc is)
    by_test false c true is h = let k = one-le c in omega (arith, h, k)
    by_test false c false is h = omega (arith, h)

-- no more entries are named than there are members
named-few : (ms : List (Option ℕ)) (es : Buffer) → ((n : ℕ) → numbers_as n es ≤ 1) → named ms es ≤ length ms
named-few [] es once = let h = named-none es in omega (arith, h)
named-few (None ∷ ms) es once = let h = named-few ms es once in let k = named-skip ms es in omega (arith, h, k)
named-few (Some m ∷ ms) es once = let h = named-few ms es once in let k = named-more m ms es in let o =
    once m in omega (arith, h, k, o)

-- marks are left to those that are named
marks-kept : (ms : List (Option ℕ)) (es : Buffer) → marks (map (marked_if ms) es) ≤ named ms es
unfolding marks named
marks-kept ms [] = omega arith
marks-kept ms (e ∷ es) = by_test (names e.number ms) (marks-kept ms es)
  where
    by_test : (b : Bool) → marks (map (marked_if ms) es) ≤ named ms es
        → one (is_reference (cond b e (unmarked e)).mark) + marks (map (marked_if ms) es) ≤ one b + named ms es
    by_test true h = let k = one-le (is_reference e.mark) in omega (arith, h, k)
    by_test false h = omega (arith, h)

-- maps that keep numbers
KeepsNumber : (Entry → Entry) → Type 0
KeepsNumber f = (e : Entry) → (f e).number ≡ e.number

numbers-map : (n : ℕ) (f : Entry → Entry) → KeepsNumber f → (es : Buffer) → numbers_as n (map f es) ≡ numbers_as n es
unfolding numbers_as KeepsNumber
numbers-map n f keeps [] = refl
numbers-map n f keeps (e ∷ es) = ap (λ (m : ℕ). one (eqb m n) + numbers_as n (map f es)) (keeps e)
    ∙ ap (λ (m : ℕ). one (eqb e.number n) + m) (numbers-map n f keeps es)

keeps-unmarked : KeepsNumber unmarked
unfolding KeepsNumber
keeps-unmarked e = refl

keeps-with_latency : KeepsNumber with_latency
unfolding KeepsNumber
keeps-with_latency e = refl

keeps-long : (ms : List (Option ℕ)) → KeepsNumber (long_term_if ms)
unfolding KeepsNumber
keeps-long ms e = by_test (names e.number ms)
  where
    by_test : (b : Bool) → (cond b (record e { mark = LongTerm }) e).number ≡ e.number
    by_test true = refl
    by_test false = refl

keeps-kept : (ms : List (Option ℕ)) → KeepsNumber (marked_if ms)
unfolding KeepsNumber
keeps-kept ms e = by_test (names e.number ms)
  where
    by_test : (b : Bool) → (cond b e (unmarked e)).number ≡ e.number
    by_test true = refl
    by_test false = refl

numbers-references_before : (n : ℕ) (p : Head) (es : Buffer) → numbers_as n (references_before p es) ≡ numbers_as n es
numbers-references_before n p es = by_test p.starts_sequence
  where
    by_test : (b : Bool) → numbers_as n (cond b (map unmarked es) es) ≡ numbers_as n es
    by_test true = numbers-map n unmarked keeps-unmarked es
    by_test false = refl

numbers-long : (n : ℕ) (p : Head) (first : Slice) (es : Buffer)
    → numbers_as n (with_long_term p first (references_before p es)) ≡ numbers_as n es
numbers-long n p first es =
    numbers-map n
    (long_term_if (map (long_term_entry p first (references_before p es)) first.long_term_pics))
    (keeps-long (map (long_term_entry p first (references_before p es)) first.long_term_pics))
    (references_before p es) ∙ numbers-references_before n p es

numbers-marked : (n : ℕ) (p : Head) (first : Slice) (es : Buffer)
    → numbers_as n (with_marks p first es) ≡ numbers_as n es
unfolding with_marks
numbers-marked n p first es =
    numbers-map n (marked_if (all_members (reference_set p first es)))
    (keeps-kept (all_members (reference_set p first es))) (with_long_term p first (references_before p es))
    ∙ numbers-long n p first es

numbers-append : (n : ℕ) (xs ys : Buffer) → numbers_as n (xs ++ ys) ≡ numbers_as n xs + numbers_as n ys
unfolding numbers_as
numbers-append n [] ys = omega arith
numbers-append n (e ∷ xs) ys = let h = numbers-append n xs ys in omega (arith, h)

numbers-kept : (n : ℕ) (b r : Bool) (e : Entry)
    → numbers_as n (cond b (cond r (record e { needed_for_output = false } ∷ []) []) (e ∷ [])) ≤ one (eqb e.number n)
unfolding numbers_as
numbers-kept n true true e = omega arith
numbers-kept n true false e = omega arith
numbers-kept n false r e = omega arith

numbers-output : (n : ℕ) (output es : List Entry) → numbers_as n (after_output output es) ≤ numbers_as n es
unfolding numbers_as
numbers-output n output [] = omega arith
numbers-output n output (e ∷ es) =
    let h = numbers-append n (left_of (has_number e.number output) e) (after_output output es) in
    let k = numbers-kept n (has_number e.number output) (is_reference e.mark) e in
    let r = numbers-output n output es in
    by_sum h k r
  where
    by_sum : numbers_as n (left_of (has_number e.number output) e ++ after_output output es) ≡ numbers_as n
        (left_of (has_number e.number output) e) + numbers_as n (after_output output es)
        → numbers_as n (left_of (has_number e.number output) e) ≤ one (eqb e.number n)
        → numbers_as n (after_output output es) ≤ numbers_as n es
        → numbers_as n (left_of (has_number e.number output) e ++ after_output output es) ≤ one
        (eqb e.number n) + numbers_as n es
    by_sum h k r = omega (arith, h, k, r)

-- the lists have as many members as the header
split : {X : Type 0} (f : X → Bool) (xs : List X)
    → length (filter f xs) + length (filter (λ x. not (f x)) xs) ≡ length xs
split f [] = omega arith
split f (x ∷ xs) = by_test (f x) (split f xs)
  where
    by_test : (b : Bool) → length (filter f xs) + length (filter (λ x. not (f x)) xs) ≡ length xs
        → length (cond b (x ∷ filter f xs) (filter f xs)) + length
        (cond (not b) (x ∷ filter (λ x. not (f x)) xs) (filter (λ x. not (f x)) xs)) ≡ length (x ∷ xs)
    by_test true h = omega (arith, h)
    by_test false h = omega (arith, h)

filter-append : {X : Type 0} (f : X → Bool) (xs ys : List X)
    → length (filter f (xs ++ ys)) ≡ length (filter f xs) + length (filter f ys)
filter-append f [] ys = omega arith
filter-append f (x ∷ xs) ys = by_test (f x) (filter-append f xs ys)
  where
    by_test : (b : Bool) → length (filter f (xs ++ ys)) ≡ length (filter f xs) + length (filter f ys)
        → length (cond b (x ∷ filter f (xs ++ ys)) (filter f (xs ++ ys))) ≡ length
        (cond b (x ∷ filter f xs) (filter f xs)) + length (filter f ys)
    by_test true h = omega (arith, h)
    by_test false h = h

five-length : (p : Head) (first : Slice) (es marked : Buffer)
    → length (all_members (five_lists p first (short_term_set first) es marked)) ≡ num_members first
five-length p first es marked =
    let set = short_term_set first in
    let five = five_lists p first set es marked in
    let neg = set.negative_pics in
    let posi = set.positive_pics in
    let lt = first.long_term_pics in
    let a1 = length-append (five.st_curr_before ++ five.st_curr_after ++ five.st_foll ++ five.lt_curr) five.lt_foll in
    let a2 = length-append (five.st_curr_before ++ five.st_curr_after ++ five.st_foll) five.lt_curr in
    let a3 = length-append (five.st_curr_before ++ five.st_curr_after) five.st_foll in
    let a4 = length-append five.st_curr_before five.st_curr_after in
    let m1 = length-map (filter is_curr_short_term neg) (short_term_entry p marked) in
    let m2 = length-map (filter is_curr_short_term posi) (short_term_entry p marked) in
    let m3 = length-map (filter (λ (m : ShortTermMember). not (is_curr_short_term m)) (neg ++ posi))
    (short_term_entry p marked) in
    let m4 = length-map (filter is_curr_long_term lt) (long_term_entry p first es) in
    let m5 = length-map (filter (λ (m : LongTermMember). not (is_curr_long_term m)) lt) (long_term_entry p first es) in
    let s1 = split is_curr_short_term (neg ++ posi) in
    let s2 = filter-append is_curr_short_term neg posi in
    let s3 = length-append neg posi in
    let s4 = split is_curr_long_term lt in
    omega (arith, a1, a2, a3, a4, m1, m2, m3, m4, m5, s1, s2, s3, s4)

-- the marks that a picture leaves
marks-few : (p : Head) (first : Slice) (es : Buffer) → ((n : ℕ) → numbers_as n es ≤ 1)
    → (is_idr p.nal_unit_type ≡ false → num_members first ≤ p.limits.max_dec_pic_buffering_minus1)
    → marks (with_marks p first es) ≤ p.limits.max_dec_pic_buffering_minus1
unfolding with_marks reference_set
marks-few p first es once few =
    by_sum (named-few (all_members (reference_set p first es))
    (with_long_term p first (references_before p es))
    (λ n. subst (λ (m : ℕ). m ≤ 1) (sym (numbers-long n p first es)) (once n)))
    (marks-kept (all_members (reference_set p first es)) (with_long_term p first (references_before p es)))
    (by_test (is_idr p.nal_unit_type) few)
  where
    by_test : (b : Bool) → (b ≡ false → num_members first ≤ p.limits.max_dec_pic_buffering_minus1)
        → length (all_members
        (cond b no_references
        (five_lists p first (short_term_set first) (references_before p es)
        (with_long_term p first (references_before p es))))) ≤ p.limits.max_dec_pic_buffering_minus1
    by_test true h = omega arith
    by_test false h = let k = h refl in let l =
        five-length p first (references_before p es) (with_long_term p first (references_before p es)) in
        omega (arith, k, l)

    by_sum : {a b c d : ℕ} → b ≤ c → a ≤ b → c ≤ d → a ≤ d
    by_sum h k l = omega (arith, h, k, l)

has_of : (n : ℕ) (es : List Entry) → 1 ≤ output_as n es → has_number n es ≡ true
has_of n es h = by_test (has_number n es) (has-as n es)
  where
    by_test : (b : Bool) → cond b (1 ≤ output_as n es) (output_as n es ≡ 0) → b ≡ true
    by_test true k = refl
    by_test false k = absurd (omega (arith, h, k))

eqb-same : (n : ℕ) → eqb n n ≡ true
eqb-same n = grind (arith, nat_tests)

-- once all that is needed for output is output, only what has a mark is left
left-few : (output xs : List Entry) → ((n : ℕ) → 1 ≤ waits_as n xs → has_number n output ≡ true)
    → length (after_output output (filter is_needed xs)) ≤ marks xs
unfolding marks
left-few output [] h = omega arith
left-few output (e ∷ xs) h =
    by_tests e.needed_for_output (is_reference e.mark) refl refl (left-few output xs (λ n k. h n (omega (arith, k))))
  where
    goal : Bool → Bool → Type 0
    goal w r = length (after_output output (cond (w || r) (e ∷ filter is_needed xs) (filter is_needed xs)))
        ≤ one r + marks xs

    kept_few : (b r : Bool) → b ≡ true
        → length (cond b (cond r (record e { needed_for_output = false } ∷ []) []) (e ∷ [])) ≤ one r
    kept_few true true is = omega arith
    kept_few true false is = omega arith
    kept_few false r is = absurd (cc is)

    one_few : (b : Bool) → length (cond b (record e { needed_for_output = false } ∷ []) (e ∷ [])) ≤ 1
    one_few true = omega arith
    one_few false = omega arith

    sum : (ys : List Entry) (k : ℕ) → length ys ≤ k
        → length (after_output output (filter is_needed xs)) ≤ marks xs
        → length (ys ++ after_output output (filter is_needed xs)) ≤ k + marks xs
    sum ys k few rest = let l = length-append ys (after_output output (filter is_needed xs)) in
        omega (arith, few, rest, l)

    by_tests : (w r : Bool) → e.needed_for_output ≡ w → is_reference e.mark ≡ r
        → length (after_output output (filter is_needed xs)) ≤ marks xs → goal w r
    by_tests true r w_is r_is rest =
        let first : 1 ≤ waits_as e.number (e ∷ xs) =
        subst (λ (b : Bool). 1 ≤ one (b && eqb e.number e.number) + waits_as e.number xs) (sym w_is)
        (subst (λ (b : Bool). 1 ≤ one b + waits_as e.number xs) (sym (eqb-same e.number)) (omega arith)) in
        sum (left_of (has_number e.number output) e) (one r)
        (subst (λ (x : Bool). length (left_of (has_number e.number output) e) ≤ one x) r_is
        (kept_few (has_number e.number output) (is_reference e.mark) (h e.number first))) rest
    by_tests false true w_is r_is rest =
        sum (left_of (has_number e.number output) e) 1
        (subst (λ (x : Bool). length
        (cond (has_number e.number output) (cond x (record e { needed_for_output = false } ∷ []) [])
        (e ∷ [])) ≤ 1) (sym r_is) (one_few (has_number e.number output))) rest
    by_tests false false w_is r_is rest = omega (arith, rest)

shortest_front-ends : {X : Type 0} (passes : List X → Bool) (xs : List X)
    → (passes (shortest_front passes xs) ≡ true) ⊎ (shortest_front passes xs ≡ xs)
shortest_front-ends passes [] = inr refl
shortest_front-ends {X = X} passes (x ∷ xs) =
    by_test (passes []) refl (shortest_front-ends (λ front. passes (x ∷ front)) xs)
  where
    rest : List X
    rest = shortest_front (λ front. passes (x ∷ front)) xs

    by_test : (b : Bool) → passes [] ≡ b → (passes (x ∷ rest) ≡ true) ⊎ (rest ≡ xs)
        → (passes (cond b [] (x ∷ rest)) ≡ true) ⊎ (cond b [] (x ∷ rest) ≡ x ∷ xs)
    by_test true is h = inl is
    by_test false is h = ⊎_elim (λ k. inl k) (λ k. inr (ap (λ l. x ∷ l) k)) h

rule-false : (a : Bool) (b l : ℕ) → not (a || nat_le (b + 1) l) ≡ true → l ≤ b
rule-false true b l h = absurd (cc h)
rule-false false b l h = grind (arith, nat_tests)

room-bound : (p : Head) (xs : Buffer) → marks xs ≤ p.limits.max_dec_pic_buffering_minus1
    → length (bumping (needs_bumping p.limits) (filter is_needed xs)).left ≤ p.limits.max_dec_pic_buffering_minus1
unfolding due_outputs needs_bumping
room-bound p xs few = ⊎_elim
    (λ h. rule-false (needs_additional_bumping p.limits left) p.limits.max_dec_pic_buffering_minus1 (length left) h)
    (λ h. by_whole (subst (λ (output : List Entry). length (after_output output es) ≤ marks xs) (sym h)
    (left-few (in_output_order es) xs
    (λ n k. has_of n (in_output_order es)
    (subst (λ (m : ℕ). 1 ≤ m) (sym (in_output_order-as n es ∙ needed-as n xs)) k)))))
    (shortest_front-ends (λ output. not (needs_bumping p.limits (after_output output es))) (in_output_order es))
  where
    es : Buffer
    es = filter is_needed xs

    left : Buffer
    left = (bumping (needs_bumping p.limits) es).left

    by_whole : length left ≤ marks xs → length left ≤ p.limits.max_dec_pic_buffering_minus1
    by_whole h = omega (arith, h, few)

-- how many pictures that are over have this number
over : ℕ → List Picture → ℕ
over n [] = 0
over n (p ∷ before) = over n before + one (eqb p.number n)

number_of : ℕ → Option Head → ℕ
number_of n None = 0
number_of n (Some q) = one (eqb q.number n)

over-above : (n : ℕ) (ps : List Picture) → Numbered ps → (context ps).number ≤ n → over n ps ≡ 0
unfolding over
over-above n [] h above = refl
over-above n (p ∷ before) h above =
    let rest : over n before ≡ 0 = over-above n before h.1 (let k = h.0 in omega (arith, k, above)) in
    let first : one (eqb p.number n) ≡ 0 = ap one (other p.number n above) in
    omega (arith, rest, first)
  where
    other : (m n : ℕ) → m + 1 ≤ n → eqb m n ≡ false
    other m n h = grind (arith, nat_tests)

over-once : (n : ℕ) (ps : List Picture) → Numbered ps → over n ps ≤ 1
unfolding over
over-once n [] h = omega arith
over-once n (p ∷ before) h = by_test (eqb p.number n) refl (over-once n before h.1)
  where
    equal_numbers : (m n : ℕ) → eqb m n ≡ true → m ≡ n
    equal_numbers m n is = grind (arith, nat_tests)

    by_test : (b : Bool) → eqb p.number n ≡ b → over n before ≤ 1 → over n before + one (eqb p.number n) ≤ 1
    by_test true is k = let same = equal_numbers p.number n is in let number =
        h.0 in let rest : over n before ≡ 0 = over-above n before h.1 (omega (arith, same, number)) in
        let few = one-le (eqb p.number n) in omega (arith, rest, few)
    by_test false is k = let first : one (eqb p.number n) ≡ 0 = ap one is in omega (arith, first, k)

numbers-single : (n : ℕ) (e : Entry) → numbers_as n (e ∷ []) ≡ one (eqb e.number n)
unfolding numbers_as
numbers-single n e = omega arith

numbers-none : (n : ℕ) → numbers_as n [] ≡ 0
unfolding numbers_as
numbers-none n = refl

numbers-filter : (n : ℕ) (es : Buffer) → numbers_as n (filter is_needed es) ≤ numbers_as n es
unfolding numbers_as
numbers-filter n [] = omega arith
numbers-filter n (e ∷ es) = by_test (is_needed e) (numbers-filter n es)
  where
    by_test : (b : Bool) → numbers_as n (filter is_needed es) ≤ numbers_as n es
        → numbers_as n (cond b (e ∷ filter is_needed es) (filter is_needed es)) ≤ one (eqb e.number n) + numbers_as n es
    by_test true h = omega (arith, h)
    by_test false h = omega (arith, h)

finish-numbers : (n : ℕ) (q : Option Head) (s : Store)
    → numbers_as n (finish q s).next.buffer ≤ numbers_as n s.buffer + number_of n q
unfolding finish store_picture with_stored number_of
finish-numbers n None s = omega arith
finish-numbers n (Some q) s = by_test q.skipped
  where
    last : numbers_as n (entry_of q ∷ []) ≡ one (eqb q.number n)
    last = numbers-single n (entry_of q)

    by_test : (b : Bool)
        → numbers_as n (cond b (nothing s) (store_picture q s)).next.buffer ≤ numbers_as n s.buffer + one
        (eqb q.number n)
    by_test true = omega arith
    by_test false =
        let h = numbers-output n (due_outputs (needs_additional_bumping q.limits) (with_stored q s.buffer))
        (with_stored q s.buffer) in
        let k = numbers-append n (map with_latency s.buffer) (entry_of q ∷ []) in
        let l = numbers-map n with_latency keeps-with_latency s.buffer in
        let m = last in
        omega (arith, h, k, l, m)

change-numbers : (n : ℕ) (f : Format) (s : Store) → numbers_as n (change_format f s).next.buffer ≤ numbers_as n s.buffer
unfolding change_format
change-numbers n f s = by_test (is_accepted f s.accepted)
  where
    by_test : (b : Bool)
        → numbers_as n (cond b (nothing s) (output_by draining s >>= open_sequence f)).next.buffer
        ≤ numbers_as n s.buffer
    by_test true = omega arith
    by_test false = let h = numbers-none n in omega (arith, h)

begin-numbers : (n : ℕ) (p : Head) (first : Slice) (s : Store)
    → numbers_as n (begin_picture p first s).next.buffer ≤ numbers_as n s.buffer
unfolding begin_picture make_room start_decoding
begin-numbers n p first s = by_tests (is_decoded p) p.no_output_of_prior_pics p.starts_sequence
  where
    t : Store
    t = record s { buffer = with_marks p first s.buffer }

    room : Bool → Bool → Part Store
    room d r = cond d (nothing (record t { buffer = [] }))
        (cond r (output_by draining t)
        (output_by (bumping (needs_bumping p.limits)) (record t { buffer = needed_entries t.buffer })))

    by_tests : (b d r : Bool)
        → numbers_as n
        (cond b (room d r >>= start_decoding p (reference_set p first s.buffer)) (nothing s)).next.buffer
        ≤ numbers_as n s.buffer
    by_tests false d r = omega arith
    by_tests true true r = let h = numbers-none n in omega (arith, h)
    by_tests true false true = let h = numbers-none n in omega (arith, h)
    by_tests true false false =
        let es = filter is_needed (with_marks p first s.buffer) in
        let h = numbers-output n (due_outputs (needs_bumping p.limits) es) es in
        let k = numbers-filter n (with_marks p first s.buffer) in
        let l = numbers-marked n p first s.buffer in
        omega (arith, h, k, l)

begin-bound : (p : Head) (first : Slice) (s : Store) → is_decoded p ≡ true
    → ((n : ℕ) → numbers_as n s.buffer ≤ 1)
    → (is_idr p.nal_unit_type ≡ false → num_members first ≤ p.limits.max_dec_pic_buffering_minus1)
    → length (begin_picture p first s).next.buffer ≤ p.limits.max_dec_pic_buffering_minus1
unfolding begin_picture make_room start_decoding
begin-bound p first s decoded once few = by_tests (is_decoded p) p.no_output_of_prior_pics p.starts_sequence decoded
  where
    t : Store
    t = record s { buffer = with_marks p first s.buffer }

    room : Bool → Bool → Part Store
    room d r = cond d (nothing (record t { buffer = [] }))
        (cond r (output_by draining t)
        (output_by (bumping (needs_bumping p.limits)) (record t { buffer = needed_entries t.buffer })))

    by_tests : (b d r : Bool) → b ≡ true
        → length (cond b (room d r >>= start_decoding p (reference_set p first s.buffer))
        (nothing s)).next.buffer ≤ p.limits.max_dec_pic_buffering_minus1
    by_tests false d r is = absurd (cc is)
    by_tests true true r is = omega arith
    by_tests true false true is = omega arith
    by_tests true false false is = room-bound p (with_marks p first s.buffer) (marks-few p first s.buffer once few)

-- numbers in the buffer are those of pictures that are over
store-numbers : (n : ℕ) (set : Option (ℕ × Format)) (ps : List Picture)
    → numbers_as n (store set ps).buffer + number_of n (latest_head ps) ≤ over n ps
unfolding over number_of
store-numbers n None [] = let h = numbers-none n in omega (arith, h)
store-numbers n (Some set) [] = let h = numbers-none n in omega (arith, h)
store-numbers n set (p ∷ before) =
    let ih = store-numbers n set before in
    let old = store set before in
    let f = finish (latest_head before) old in
    let c = change_format p.format f.next in
    let h1 = finish-numbers n (latest_head before) old in
    let h2 = change-numbers n p.format f.next in
    let h3 = begin-numbers n p.head p.first c.next in
    omega (arith, ih, h1, h2, h3)

-- every count is in range
abbrev pub AllInRange : List Picture → Type 0
AllInRange [] = Unit {0}
AllInRange (p ∷ before) = (order_count_in_range p.head ≡ true) × AllInRange before

picture-none : (p : Head) → refusal_of_picture p ≡ None → order_count_in_range p ≡ true
picture-none p h = by_test (order_count_in_range p) h
  where
    by_test : (b : Bool) → cond b None (Some PocOutOfRange) ≡ None → b ≡ true
    by_test true h = refl
    by_test false h = absurd (cc h)

slice-in_range : (k : ℕ) (s : Slice) (ps : List Picture) → refusal_of_whole ps s ≡ None → AllInRange ps
    → AllInRange (with_slice k s ps)
slice-in_range k s [] none h = (picture-none (head (context []) s) none, tt)
slice-in_range k s (p ∷ before) none h = by_test s.first_slice_segment_in_pic_flag none
  where
    by_test : (b : Bool)
        → cond b (refusal_of_picture (head (context (p ∷ before)) s)) (refusal_of_later p.head s) ≡ None
        → AllInRange
        (cond b (new_picture k s (p ∷ before) ∷ p ∷ before) (record p { slices = p.slices ++ (k, s) ∷ [] } ∷ before))
    by_test true none = (picture-none (head (context (p ∷ before)) s) none, h)
    by_test false none = h

whole-in_range : (k : ℕ) (s : Option Slice) (ps : List Picture) → refusal_of_slice ps s ≡ None
    → AllInRange ps → AllInRange (with_whole k s ps)
whole-in_range k None ps none h = h
whole-in_range k (Some s) ps none h = slice-in_range k s ps none h

sequence_end-in_range : (ps : List Picture) → AllInRange ps → AllInRange (with_sequence_end ps)
sequence_end-in_range [] h = h
sequence_end-in_range (p ∷ before) h = h

bitstream_end-in_range : (ps : List Picture) → AllInRange ps → AllInRange (with_bitstream_end ps)
bitstream_end-in_range [] h = h
bitstream_end-in_range (p ∷ before) h = h

unit-in_range : (k : ℕ) (u : Meaning) (v : Stream) → refusal v u ≡ None → AllInRange v.pictures
    → AllInRange (with_unit k u v).pictures
unit-in_range k (SequenceSet format) v none h = h
unit-in_range k (CodedSlice s) v none h = whole-in_range k (whole_slice v.kept s) v.pictures none h
unit-in_range k EndOfSequence v none h = sequence_end-in_range v.pictures h
unit-in_range k EndOfBitstream v none h = bitstream_end-in_range v.pictures h
unit-in_range k Other v none h = h
unit-in_range k (Refused cause) v none h = h

stop-in_range : (k : ℕ) (v : Stream) (us : List Meaning) → stop_from k v us ≡ None → AllInRange v.pictures
    → AllInRange (stream_from k v us).pictures
stop-in_range k v [] none h = h
stop-in_range k v (u ∷ us) none h = by_refusal (refusal v u) refl none (stop-in_range (k + 1) (with_unit k u v) us)
  where
    by_refusal : (r : Option Cause) → refusal v u ≡ r
        → first_refusal k r (stop_from (k + 1) (with_unit k u v) us) ≡ None
        → (stop_from (k + 1) (with_unit k u v) us ≡ None → AllInRange (with_unit k u v).pictures
        → AllInRange (stream_from (k + 1) (with_unit k u v) us).pictures)
        → AllInRange (stream_from (k + 1) (with_unit k u v) us).pictures
    by_refusal None is none further = further none (unit-in_range k u v is h)
    by_refusal (Some cause) is none further = absurd (cc none)

-- the buffer as a picture that was decoded is over, and its size then
pub few_stored : (set : Option (ℕ × Format)) (p : Picture) (before : List Picture) → Numbered (p ∷ before)
    → AllInRange (p ∷ before) → AllClean (p ∷ before) → p.skipped ≡ false
    → length (store set (p ∷ before)).buffer ≤ p.limits.max_dec_pic_buffering_minus1
few_stored set p before numbered in_ranges clean skipped =
    begin-bound p.head p.first c.next decoded once (clean.0.few skipped)
  where
    old : Store
    old = store set before

    f : Part Store
    f = finish (latest_head before) old

    c : Part Store
    c = change_format p.format f.next

    decoded : is_decoded p.head ≡ true
    decoded = ap (λ (b : Bool). b && not p.skipped) in_ranges.0 ∙ ap not skipped

    once : (n : ℕ) → numbers_as n c.next.buffer ≤ 1
    once n =
        let h1 = finish-numbers n (latest_head before) old in
        let h2 = change-numbers n p.format f.next in
        let h3 = store-numbers n set before in
        let h4 = over-once n before numbered.1 in
        omega (arith, h1, h2, h3, h4)

not_full : (set : Option (ℕ × Format)) (ps : List Picture) → Numbered ps → AllInRange ps → AllClean ps
    → is_full (latest_head ps) (store set ps) ≡ false
not_full set [] numbered in_ranges clean = refl
not_full set (p ∷ before) numbered in_ranges clean = by_test p.skipped refl
  where
    room : (n m l : ℕ) → l ≤ m → m < n → nat_le n l ≡ false
    room n m l h k = grind (arith, nat_tests)

    by_test : (b : Bool) → p.skipped ≡ b
        → not b && nat_le (accepted_size (store set (p ∷ before)).accepted)
        (length (store set (p ∷ before)).buffer) ≡ false
    by_test true is = refl
    by_test false is =
        subst (λ (a : Option Format). nat_le (accepted_size a) (length (store set (p ∷ before)).buffer)
        ≡ false) (sym (accepted_is set p before))
        (room p.format.max_num_pics p.limits.max_dec_pic_buffering_minus1
        (length (store set (p ∷ before)).buffer) (few_stored set p before numbered in_ranges clean is)
        (clean.0.room is))

none_full : (set : Option (ℕ × Format)) (ps : List Picture) → Numbered ps → AllInRange ps → AllClean ps
    → full_store set ps ≡ None
none_full set [] numbered in_ranges clean = refl
none_full set (p ∷ before) numbered in_ranges clean =
    ap (λ (f : Option ℕ). earlier_of f
    (cond (is_full (latest_head before) (store set before)) (Some p.unit) None))
    (none_full set before numbered.1 in_ranges.1 clean.1)
    ∙ ap (λ (b : Bool). cond b (Some p.unit) None) (not_full set before numbered.1 in_ranges.1 clean.1)

pub never_full : (us : List Meaning) → IsClean us → full us ≡ None
never_full us clean =
    ap (λ (f : Option ℕ). earlier_of f (full_at_end (stop us) (length us) (covered_stream us)))
    (none_full (covered_stream us).first_set (covered_stream us).pictures numbered in_ranges all_clean)
    ∙ ap (λ s. full_at_end s (length us) (covered_stream us)) clean.goes_on
    ∙ ap (λ (b : Bool). cond b (Some (length us)) None)
    (not_full (covered_stream us).first_set (covered_stream us).pictures numbered in_ranges all_clean)
  where
    is : covered_stream us ≡ stream_from 0 nothing_yet us
    is = covered_all 0 nothing_yet us clean.goes_on

    numbered : Numbered (covered_stream us).pictures
    numbered = covered-numbered 0 nothing_yet us tt

    in_ranges : AllInRange (covered_stream us).pictures
    in_ranges = subst (λ (v : Stream). AllInRange v.pictures) (sym is) (stop-in_range 0 nothing_yet us clean.goes_on tt)

    all_clean : AllClean (covered_stream us).pictures
    all_clean = subst (λ (v : Stream). AllClean v.pictures) (sym is) clean.pictures

pub clean_ok : (us : List Meaning) → IsClean us → verdict us ≡ Ok (length (pictures us))
clean_ok us clean = ap (λ (f : Option ℕ). full_or f (stop_or (stop us) (Ok (length (pictures us)))))
    (never_full us clean) ∙ ap (λ s. stop_or s (Ok (length (pictures us)))) clean.goes_on

each-few : (set : Option (ℕ × Format)) (ps : List Picture) → Numbered ps → AllInRange ps → AllClean ps
    → StoresFew set ps
each-few set [] numbered in_ranges clean = tt
each-few set (p ∷ before) numbered in_ranges clean =
    (few_stored set p before numbered in_ranges clean, each-few set before numbered.1 in_ranges.1 clean.1)

pub stores_few : (us : List Meaning) → IsClean us → StoresFew (stream_from 0 nothing_yet us).first_set (pictures us)
stores_few us clean =
    each-few (stream_from 0 nothing_yet us).first_set (pictures us) (stream-numbered 0 nothing_yet us tt)
    (stop-in_range 0 nothing_yet us clean.goes_on tt) clean.pictures
