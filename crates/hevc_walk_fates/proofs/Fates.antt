-- Each picture that is to be output is output or discarded, once.
use Rattle.std.proofs.Common.{◌≡◌, ℕ, ◌+◌, ◌≤◌, Bool, true, false, not, cond, ◌&&◌, ◌||◌, eqb, List}
use Rattle.std.proofs.Common.{[], ◌∷◌, ◌++◌, length, map, refl, sym, ◌∙◌, ap, subst, arith, Option}
use Rattle.std.proofs.Common.{Some, None}
use Rattle.std.proofs.lemmas.Bool.Decides.{nat_tests}
use Rattle.hevc_walk.specs.Meanings.{Format, Slice, Meaning}
use Rattle.hevc_walk.specs.Pictures.{Head, Picture, Stream, context, nothing_yet, pictures, stream_from}
use Rattle.hevc_walk.specs.Buffer.{draining}
use Rattle.hevc_walk.specs.ReferenceSets.{RefPicSet}
use Rattle.hevc_walk.specs.Walk.{Event, Called, Output, Store, output_by, finish, change_format}
use Rattle.hevc_walk.specs.Walk.{begin_picture, is_decoded, picture_part, latest_head, store}
use Rattle.hevc_walk.specs.Walk.{reference_set_of, picture_events, decode_slices, slice_call}
use Rattle.hevc_walk.specs.Walk.{at_unit, closing}
use Rattle.hevc_walk.specs.Refusals.{Refusal, stop, covered_stream}
use Rattle.hevc_walk.specs.Results.{ending, events, outputs_in}
use Rattle.hevc_walk.specs.Fates.{one, times, discarded_by, discarded_in, discarded_numbers}
use Rattle.hevc_walk.specs.Fates.{Skipped, Hidden, Discarded, ForOutput, fate_by, among}
use Rattle.hevc_walk.specs.Fates.{is_fated_for_output, numbers_for_output, output_numbers}
use Rattle.hevc_walk_fates.proofs.Accepted.{equal_numbers}
use Rattle.hevc_walk_fates.proofs.Counts.{one-le, given, given-append, waits_as, for_output}
use Rattle.hevc_walk_fates.proofs.Counts.{to_come, finish-balanced, change-balanced, begin-balanced}
use Rattle.hevc_walk_fates.proofs.Counts.{output_drain}
use Rattle.hevc_walk_fates.proofs.Numbers.{Numbered, covered-numbered, covered_all}

pub given_in : ℕ → List (ℕ × Event) → ℕ
given_in n [] = 0
given_in n ((k, Called call) ∷ es) = given_in n es
given_in n ((k, Output number count) ∷ es) = one (eqb number n) + given_in n es

pub given_in-none : (n : ℕ) → given_in n [] ≡ 0
unfolding given_in
given_in-none n = refl

pub given_in-append : (n : ℕ) (xs ys : List (ℕ × Event)) → given_in n (xs ++ ys) ≡ given_in n xs + given_in n ys
unfolding given_in
given_in-append n [] ys = omega arith
given_in-append n ((k, Called call) ∷ xs) ys = given_in-append n xs ys
given_in-append n ((k, Output number count) ∷ xs) ys = let h = given_in-append n xs ys in omega (arith, h)

pub given_in-at : (n k : ℕ) (es : List Event) → given_in n (at_unit k es) ≡ given n es
unfolding given_in
given_in-at n k [] = refl
given_in-at n k (Called call ∷ es) = given_in-at n k es
given_in-at n k (Output number count ∷ es) = ap (λ (m : ℕ). one (eqb number n) + m) (given_in-at n k es)

pub given_in-numbers : (n : ℕ) (es : List (ℕ × Event)) → times n (map (λ o. o.number) (outputs_in es)) ≡ given_in n es
unfolding given_in
given_in-numbers n [] = refl
given_in-numbers n ((k, Called call) ∷ es) = given_in-numbers n es
given_in-numbers n ((k, Output number count) ∷ es) = ap (λ (m : ℕ). one (eqb number n) + m) (given_in-numbers n es)

given_in-decodes : (n : ℕ) (p : Head) (set : RefPicSet) (slices : List (ℕ × Slice))
    → given_in n (decode_slices p set slices) ≡ 0
unfolding given_in
given_in-decodes n p set [] = refl
given_in-decodes n p set (s ∷ slices) = by_test (is_decoded p) (given_in-decodes n p set slices)
  where
    by_test : (b : Bool) → given_in n (decode_slices p set slices) ≡ 0
        → given_in n (cond b ((s.0, Called (slice_call p set s.1)) ∷ []) [] ++ decode_slices p set slices) ≡ 0
    by_test true h = h
    by_test false h = h

times-append : (n : ℕ) (xs ys : List ℕ) → times n (xs ++ ys) ≡ times n xs + times n ys
times-append n [] ys = omega arith
times-append n (x ∷ xs) ys = let h = times-append n xs ys in omega (arith, h)

-- of the pictures that are over, those of this number that are to be output
abbrev pub over : ℕ → List Picture → ℕ
over n [] = 0
over n (p ∷ before) = to_come n (latest_head before) + over n before

abbrev pub all : ℕ → List Picture → ℕ
all n [] = 0
all n (p ∷ before) = for_output n p.head + all n before

pub over-all : (n : ℕ) (ps : List Picture) → to_come n (latest_head ps) + over n ps ≡ all n ps
over-all n [] = omega arith
over-all n (p ∷ before) = ap (λ (m : ℕ). for_output n p.head + m) (over-all n before)

other_number : (m n : ℕ) → m + 1 ≤ n → eqb m n ≡ false
other_number m n h = grind (arith, nat_tests)

none_for_output : (a b : Bool) → one (a && b && false) ≡ 0
none_for_output true true = refl
none_for_output true false = refl
none_for_output false b = refl

all-above : (n : ℕ) (ps : List Picture) → Numbered ps → (context ps).number ≤ n → all n ps ≡ 0
all-above n [] h above = refl
all-above n (p ∷ before) h above =
    let first : for_output n p.head ≡ 0 =
    ap (λ (b : Bool). one (not p.skipped && p.pic_output_flag && b)) (other_number p.number n above)
    ∙ none_for_output (not p.skipped) p.pic_output_flag in
    let rest : all n before ≡ 0 = all-above n before h.1 (let k = h.0 in omega (arith, k, above)) in
    omega (arith, first, rest)

pub all-once : (n : ℕ) (ps : List Picture) → Numbered ps → all n ps ≤ 1
all-once n [] h = omega arith
all-once n (p ∷ before) h = by_test (eqb p.number n) refl (all-once n before h.1)
  where
    by_test : (c : Bool) → eqb p.number n ≡ c → all n before ≤ 1 → for_output n p.head + all n before ≤ 1
    by_test true is k =
        let same = equal_numbers p.number n is in
        let number = h.0 in
        let rest : all n before ≡ 0 = all-above n before h.1 (omega (arith, same, number)) in
        let few = one-le (not p.skipped && p.pic_output_flag && eqb p.number n) in
        omega (arith, rest, few)
    by_test false is k =
        let first : for_output n p.head ≡ 0 =
        ap (λ (b : Bool). one (not p.skipped && p.pic_output_flag && b)) is
        ∙ none_for_output (not p.skipped) p.pic_output_flag in
        omega (arith, first, k)

pub balance : (n : ℕ) (set : Option (ℕ × Format)) (ps : List Picture) → Numbered ps
    → given_in n (picture_events set ps) +
    (times n (discarded_in set ps) + waits_as n (store set ps).buffer) ≡ over n ps
unfolding given_in
balance n None [] h = refl
balance n (Some set) [] h = refl
balance n set (p ∷ before) h =
    let old = store set before in
    let q = latest_head before in
    let f = finish q old in
    let c = change_format p.format f.next in
    let b = begin_picture p.head p.first c.next in
    let part = picture_part q p.head p.first old in
    let references = reference_set_of set p before in
    let ih = balance n set before h.1 in
    let once = all-once n before h.1 in
    let whole = over-all n before in
    let e1 = finish-balanced n q old (omega (arith, ih, once, whole)) in
    let e2 = change-balanced n p.format f.next in
    let e3 = begin-balanced n p.head p.first c.next (omega (arith, ih, once, whole, e1, e2)) in
    let g1 = given_in-append n (picture_events set before ++ at_unit p.unit part.events)
    (decode_slices p.head references p.slices) in
    let g2 = given_in-append n (picture_events set before) (at_unit p.unit part.events) in
    let g3 = given_in-at n p.unit part.events in
    let g4 = given-append n (f.events ++ c.events) b.events in
    let g5 = given-append n f.events c.events in
    let g6 = given_in-decodes n p.head references p.slices in
    let l = times-append n (discarded_in set before) (discarded_by p.head c.next) in
    omega (arith, ih, e1, e2, e3, g1, g2, g3, g4, g5, g6, l)

pub closing-balanced : (n : ℕ) (q : Option Head) (s : Store) → waits_as n s.buffer + to_come n q ≤ 1
    → given n (closing q s).events ≡ waits_as n s.buffer + to_come n q
closing-balanced n q s once =
    let f = finish q s in
    let e1 = finish-balanced n q s once in
    let e2 = output_drain n f.next in
    let g = given-append n f.events (output_by draining f.next).events in
    omega (arith, e1, e2, g)

-- with the ending
pub ended : (n k : ℕ) (stopped : Option Refusal) (v : Stream) → Numbered v.pictures
    → given_in n (picture_events v.first_set v.pictures ++ ending stopped k v) + times n
    (discarded_in v.first_set v.pictures) ≤ all n v.pictures
unfolding given_in
ended n k None v h =
    let b = balance n v.first_set v.pictures h in
    let once = all-once n v.pictures h in
    let whole = over-all n v.pictures in
    let s = store v.first_set v.pictures in
    let c = closing (latest_head v.pictures) s in
    let e = closing-balanced n (latest_head v.pictures) s (omega (arith, b, once, whole)) in
    let g1 = given_in-append n (picture_events v.first_set v.pictures) (at_unit k c.events) in
    let g2 = given_in-at n k c.events in
    omega (arith, b, whole, e, g1, g2)
ended n k (Some refusal) v h =
    let b = balance n v.first_set v.pictures h in
    let whole = over-all n v.pictures in
    let g1 = given_in-append n (picture_events v.first_set v.pictures) [] in
    omega (arith, b, whole, g1)

ended_whole : (n k : ℕ) (v : Stream) → Numbered v.pictures
    → given_in n (picture_events v.first_set v.pictures ++ ending None k v) + times n
    (discarded_in v.first_set v.pictures) ≡ all n v.pictures
unfolding given_in
ended_whole n k v h =
    let b = balance n v.first_set v.pictures h in
    let once = all-once n v.pictures h in
    let whole = over-all n v.pictures in
    let s = store v.first_set v.pictures in
    let c = closing (latest_head v.pictures) s in
    let e = closing-balanced n (latest_head v.pictures) s (omega (arith, b, once, whole)) in
    let g1 = given_in-append n (picture_events v.first_set v.pictures) (at_unit k c.events) in
    let g2 = given_in-at n k c.events in
    omega (arith, b, whole, e, g1, g2)

-- no picture is output twice
pub output_once : (us : List Meaning) (n : ℕ) → times n (output_numbers us) ≤ 1
output_once us n =
    let h = covered-numbered 0 nothing_yet us tt in
    let few = ended n (length us) (stop us) (covered_stream us) h in
    let once = all-once n (covered_stream us).pictures h in
    let is = given_in-numbers n (events us) in
    omega (arith, few, once, is)

among-times : (n : ℕ) (ms : List ℕ) → cond (among n ms) (1 ≤ times n ms) (times n ms ≡ 0)
among-times n [] = refl
among-times n (m ∷ ms) = by_test (eqb m n) (among n ms) (among-times n ms)
  where
    by_test : (b h : Bool) → cond h (1 ≤ times n ms) (times n ms ≡ 0)
        → cond (b || h) (1 ≤ one b + times n ms) (one b + times n ms ≡ 0)
    by_test true h k = omega arith
    by_test false true k = omega (arith, k)
    by_test false false k = omega (arith, k)

-- one picture among those for output
numbers_for_output-one : (n : ℕ) (ms : List ℕ) (p : Picture)
    → one (is_fated_for_output (fate_by ms p) && eqb p.number n) ≡ cond (among n ms) 0 (for_output n p.head)
numbers_for_output-one n ms p = by_number (eqb p.number n) refl
  where
    Is : Bool → ℕ → Bool → Bool → Bool → Type 0
    Is c m s o a =
        one (is_fated_for_output
        (cond s Skipped (cond (not o) Hidden (cond (among m ms) Discarded ForOutput))) && c) ≡ cond a 0
        (one (not s && o && c))

    same_tests : (s o a : Bool)
        → one (is_fated_for_output (cond s Skipped (cond (not o) Hidden (cond a Discarded ForOutput)))
        && true) ≡ cond a 0 (one (not s && o && true))
    same_tests true o true = refl
    same_tests true o false = refl
    same_tests false true true = refl
    same_tests false true false = refl
    same_tests false false true = refl
    same_tests false false false = refl

    no_tests : (s o a b : Bool)
        → one (is_fated_for_output (cond s Skipped (cond (not o) Hidden (cond a Discarded ForOutput)))
        && false) ≡ cond b 0 (one (not s && o && false))
    no_tests true o a true = refl
    no_tests true o a false = refl
    no_tests false true true true = refl
    no_tests false true true false = refl
    no_tests false true false true = refl
    no_tests false true false false = refl
    no_tests false false a true = refl
    no_tests false false a false = refl

    by_number : (c : Bool) → eqb p.number n ≡ c → Is (eqb p.number n) p.number p.skipped p.pic_output_flag (among n ms)
    by_number true is = subst (λ (c : Bool). Is c p.number p.skipped p.pic_output_flag (among n ms))
        (sym is) (subst (λ (m : ℕ). Is true p.number p.skipped p.pic_output_flag (among m ms))
        (equal_numbers p.number n is) (same_tests p.skipped p.pic_output_flag (among p.number ms)))
    by_number false is = subst (λ (c : Bool). Is c p.number p.skipped p.pic_output_flag (among n ms))
        (sym is) (no_tests p.skipped p.pic_output_flag (among p.number ms) (among n ms))

cond-sum : (b : Bool) (x y : ℕ) → cond b 0 x + cond b 0 y ≡ cond b 0 (x + y)
cond-sum true x y = refl
cond-sum false x y = refl

numbers_for_output-times : (n : ℕ) (ms : List ℕ) (ps : List Picture)
    → times n (numbers_for_output ms ps) ≡ cond (among n ms) 0 (all n ps)
numbers_for_output-times n ms [] = by_test (among n ms)
  where
    by_test : (b : Bool) → times n [] ≡ cond b 0 0
    by_test true = refl
    by_test false = refl
numbers_for_output-times n ms (p ∷ before) = by_test (is_fated_for_output (fate_by ms p))
    ∙ ap (λ (m : ℕ). m + times n (numbers_for_output ms before)) (numbers_for_output-one n ms p)
    ∙ ap (λ (m : ℕ). cond (among n ms) 0 (for_output n p.head) + m) (numbers_for_output-times n ms before)
    ∙ cond-sum (among n ms) (for_output n p.head) (all n before)
  where
    by_test : (b : Bool)
        → times n (cond b (p.number ∷ numbers_for_output ms before) (numbers_for_output ms before)) ≡ one
        (b && eqb p.number n) + times n (numbers_for_output ms before)
    by_test true = refl
    by_test false = omega arith

-- where nothing stops, what is output is what is for output
pub output_by_fate : (us : List Meaning) → stop us ≡ None → (n : ℕ)
    → times n (output_numbers us) ≡ times n (numbers_for_output (discarded_numbers us) (pictures us))
output_by_fate us none n =
    let h = covered-numbered 0 nothing_yet us tt in
    let all_is : covered_stream us ≡ stream_from 0 nothing_yet us = covered_all 0 nothing_yet us none in
    let whole : given_in n (events us) + times n (discarded_numbers us) ≡ all n
    (covered_stream us).pictures =
    subst (λ (s : Option Refusal). given_in n
    (picture_events (covered_stream us).first_set (covered_stream us).pictures
    ++ ending s (length us) (covered_stream us)) + times n (discarded_numbers us) ≡ all n
    (covered_stream us).pictures) (sym none) (ended_whole n (length us) (covered_stream us) h) in
    let once = all-once n (covered_stream us).pictures h in
    let is = given_in-numbers n (events us) in
    by_test (among n (discarded_numbers us)) (times n (output_numbers us)) (times n (discarded_numbers us))
    (all n (covered_stream us).pictures) (among-times n (discarded_numbers us)) (omega (arith, whole, is)) once
    ∙ sym (numbers_for_output-times n (discarded_numbers us) (covered_stream us).pictures)
    ∙ ap (λ (v : Stream). times n (numbers_for_output (discarded_numbers us) v.pictures)) all_is
  where
    by_test : (b : Bool) (g l a : ℕ) → cond b (1 ≤ l) (l ≡ 0) → g + l ≡ a → a ≤ 1 → g ≡ cond b 0 a
    by_test true g l a h whole once = omega arith
    by_test false g l a h whole once = omega arith
