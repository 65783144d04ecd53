-- Each picture that is decoded is submitted once, and what is output was submitted.
use Rattle.std.proofs.Common.{◌≡◌, ℕ, ◌+◌, ◌≤◌, Bool, true, false, not, cond, ◌&&◌, eqb, List, []}
use Rattle.std.proofs.Common.{◌∷◌, ◌++◌, length, map, refl, ◌∙◌, ap, arith, Option, Some, None}
use Rattle.std.proofs.lemmas.Bool.Decides.{nat_tests}
use Rattle.hevc_walk.specs.Meanings.{Format, Slice, Meaning}
use Rattle.hevc_walk.specs.Pictures.{Head, Picture, Stream, context, nothing_yet}
use Rattle.hevc_walk.specs.Buffer.{Entry, bumping, draining, needs_bumping, needs_additional_bumping, with_stored}
use Rattle.hevc_walk.specs.ReferenceSets.{RefPicSet, reference_set, with_marks}
use Rattle.hevc_walk.specs.Walk.{Event, Called, Output, output_of, NewSequence, NewPicture}
use Rattle.hevc_walk.specs.Walk.{BeginPicture, DecodeSlice, SubmitPicture, ◌>>=◌, nothing, Store}
use Rattle.hevc_walk.specs.Walk.{output_by, finish, store_picture, change_format, open_sequence}
use Rattle.hevc_walk.specs.Walk.{is_accepted, begin_picture, make_room, needed_entries}
use Rattle.hevc_walk.specs.Walk.{start_decoding, is_decoded, picture_part, latest_head, store}
use Rattle.hevc_walk.specs.Walk.{reference_set_of, picture_events, decode_slices, slice_call}
use Rattle.hevc_walk.specs.Walk.{at_unit, closing}
use Rattle.hevc_walk.specs.Refusals.{Refusal, stop, covered_stream}
use Rattle.hevc_walk.specs.Results.{ending, events, calls_in}
use Rattle.hevc_walk.specs.Fates.{one, times, output_numbers}
use Rattle.hevc_walk_fates.specs.Submissions.{submitted_in, submitted_numbers}
use Rattle.hevc_walk_fates.proofs.Accepted.{equal_numbers}
use Rattle.hevc_walk_fates.proofs.Counts.{one-le, to_come}
use Rattle.hevc_walk_fates.proofs.Numbers.{Numbered, covered-numbered}
use Rattle.hevc_walk_fates.proofs.Fates.{over, over-all, all-once, balance, closing-balanced}
use Rattle.hevc_walk_fates.proofs.Fates.{given_in, given_in-none, given_in-append, given_in-at}
use Rattle.hevc_walk_fates.proofs.Fates.{given_in-numbers}

submits : ℕ → List Event → ℕ
submits n [] = 0
submits n (Output number count ∷ es) = submits n es
submits n (Called (SubmitPicture number) ∷ es) = one (eqb number n) + submits n es
submits n (Called (NewSequence info) ∷ es) = submits n es
submits n (Called (NewPicture number t c o s) ∷ es) = submits n es
submits n (Called (BeginPicture number set) ∷ es) = submits n es
submits n (Called (DecodeSlice number address bytes list0 list1) ∷ es) = submits n es

submits-append : (n : ℕ) (xs ys : List Event) → submits n (xs ++ ys) ≡ submits n xs + submits n ys
unfolding submits
submits-append n [] ys = omega arith
submits-append n (Output number count ∷ xs) ys = submits-append n xs ys
submits-append n (Called (SubmitPicture number) ∷ xs) ys = let h = submits-append n xs ys in omega (arith, h)
submits-append n (Called (NewSequence info) ∷ xs) ys = submits-append n xs ys
submits-append n (Called (NewPicture number t c o s) ∷ xs) ys = submits-append n xs ys
submits-append n (Called (BeginPicture number set) ∷ xs) ys = submits-append n xs ys
submits-append n (Called (DecodeSlice number address bytes list0 list1) ∷ xs) ys = submits-append n xs ys

submits-output : (n : ℕ) (es : List Entry) → submits n (map output_of es) ≡ 0
unfolding submits
submits-output n [] = refl
submits-output n (e ∷ es) = submits-output n es

submits_in : ℕ → List (ℕ × Event) → ℕ
submits_in n [] = 0
submits_in n ((k, Output number count) ∷ es) = submits_in n es
submits_in n ((k, Called (SubmitPicture number)) ∷ es) = one (eqb number n) + submits_in n es
submits_in n ((k, Called (NewSequence info)) ∷ es) = submits_in n es
submits_in n ((k, Called (NewPicture number t c o s)) ∷ es) = submits_in n es
submits_in n ((k, Called (BeginPicture number set)) ∷ es) = submits_in n es
submits_in n ((k, Called (DecodeSlice number address bytes list0 list1)) ∷ es) = submits_in n es

submits_in-append : (n : ℕ) (xs ys : List (ℕ × Event)) → submits_in n (xs ++ ys) ≡ submits_in n xs + submits_in n ys
unfolding submits_in
submits_in-append n [] ys = omega arith
submits_in-append n ((k, Output number count) ∷ xs) ys = submits_in-append n xs ys
submits_in-append n ((k, Called (SubmitPicture number)) ∷ xs) ys = let h = submits_in-append n xs ys in omega (arith, h)
submits_in-append n ((k, Called (NewSequence info)) ∷ xs) ys = submits_in-append n xs ys
submits_in-append n ((k, Called (NewPicture number t c o s)) ∷ xs) ys = submits_in-append n xs ys
submits_in-append n ((k, Called (BeginPicture number set)) ∷ xs) ys = submits_in-append n xs ys
submits_in-append n ((k, Called (DecodeSlice number address bytes list0 list1)) ∷ xs) ys = submits_in-append n xs ys

submits_in-at : (n k : ℕ) (es : List Event) → submits_in n (at_unit k es) ≡ submits n es
unfolding submits submits_in
submits_in-at n k [] = refl
submits_in-at n k (Output number count ∷ es) = submits_in-at n k es
submits_in-at n k (Called (SubmitPicture number) ∷ es) = ap (λ (m : ℕ). one (eqb number n) + m) (submits_in-at n k es)
submits_in-at n k (Called (NewSequence info) ∷ es) = submits_in-at n k es
submits_in-at n k (Called (NewPicture number t c o s) ∷ es) = submits_in-at n k es
submits_in-at n k (Called (BeginPicture number set) ∷ es) = submits_in-at n k es
submits_in-at n k (Called (DecodeSlice number address bytes list0 list1) ∷ es) = submits_in-at n k es

submits_in-numbers : (n : ℕ) (es : List (ℕ × Event)) → times n (submitted_in (calls_in es)) ≡ submits_in n es
unfolding submits_in
submits_in-numbers n [] = refl
submits_in-numbers n ((k, Output number count) ∷ es) = submits_in-numbers n es
submits_in-numbers n ((k, Called (SubmitPicture number)) ∷ es) =
    ap (λ (m : ℕ). one (eqb number n) + m) (submits_in-numbers n es)
submits_in-numbers n ((k, Called (NewSequence info)) ∷ es) = submits_in-numbers n es
submits_in-numbers n ((k, Called (NewPicture number t c o s)) ∷ es) = submits_in-numbers n es
submits_in-numbers n ((k, Called (BeginPicture number set)) ∷ es) = submits_in-numbers n es
submits_in-numbers n ((k, Called (DecodeSlice number address bytes list0 list1)) ∷ es) = submits_in-numbers n es

submits_in-slices : (n : ℕ) (p : Head) (set : RefPicSet) (slices : List (ℕ × Slice))
    → submits_in n (decode_slices p set slices) ≡ 0
unfolding submits_in
submits_in-slices n p set [] = refl
submits_in-slices n p set (s ∷ slices) = by_test (is_decoded p) (submits_in-slices n p set slices)
  where
    by_test : (b : Bool) → submits_in n (decode_slices p set slices) ≡ 0
        → submits_in n (cond b ((s.0, Called (slice_call p set s.1)) ∷ []) [] ++ decode_slices p set slices) ≡ 0
    by_test true h = h
    by_test false h = h

-- a picture of this number is submitted once it is over
abbrev to_submit : ℕ → Head → ℕ
to_submit n q = one (not q.skipped && eqb q.number n)

abbrev handed : ℕ → Option Head → ℕ
handed n None = 0
handed n (Some q) = to_submit n q

finish-submits : (n : ℕ) (q : Option Head) (s : Store) → submits n (finish q s).events ≡ handed n q
unfolding finish store_picture submits
finish-submits n None s = refl
finish-submits n (Some q) s = by_skipped q.skipped
  where
    by_skipped : (b : Bool) → submits n (cond b (nothing s) (store_picture q s)).events ≡ one (not b && eqb q.number n)
    by_skipped true = refl
    by_skipped false = let h =
        submits-output n (bumping (needs_additional_bumping q.limits) (with_stored q s.buffer)).outputs in
        omega (arith, h)

change-submits : (n : ℕ) (f : Format) (s : Store) → submits n (change_format f s).events ≡ 0
unfolding change_format submits
change-submits n f s = by_test (is_accepted f s.accepted)
  where
    by_test : (b : Bool) → submits n (cond b (nothing s) (output_by draining s >>= open_sequence f)).events ≡ 0
    by_test true = refl
    by_test false =
        submits-append n (output_by draining s).events (open_sequence f (output_by draining s).next).events
        ∙ ap (λ (m : ℕ). m + 0) (submits-output n (draining s.buffer).outputs)

room-submits : (n : ℕ) (p : Head) (s : Store) → submits n (make_room p s).events ≡ 0
unfolding make_room submits
room-submits n p s = by_tests p.no_output_of_prior_pics p.starts_sequence
  where
    by_tests : (b c : Bool)
        → submits n (cond b (nothing (record s { buffer = [] }))
        (cond c (output_by draining s)
        (output_by (bumping (needs_bumping p.limits)) (record s { buffer = needed_entries s.buffer })))).events ≡ 0
    by_tests true c = refl
    by_tests false true = submits-output n (draining s.buffer).outputs
    by_tests false false = submits-output n (bumping (needs_bumping p.limits) (needed_entries s.buffer)).outputs

begin-submits : (n : ℕ) (p : Head) (first : Slice) (s : Store) → submits n (begin_picture p first s).events ≡ 0
unfolding begin_picture start_decoding submits
begin-submits n p first s = by_test (is_decoded p)
  where
    t : Store
    t = record s { buffer = with_marks p first s.buffer }

    by_test : (b : Bool)
        → submits n (cond b (make_room p t >>= start_decoding p (reference_set p first s.buffer))
        (nothing s)).events ≡ 0
    by_test true =
        submits-append n (make_room p t).events
        (start_decoding p (reference_set p first s.buffer) (make_room p t).next).events
        ∙ ap (λ (m : ℕ). m + 0) (room-submits n p t)
    by_test false = refl

-- of the pictures that are over, those of this number that were submitted
over_submitted : ℕ → List Picture → ℕ
over_submitted n [] = 0
over_submitted n (p ∷ before) = handed n (latest_head before) + over_submitted n before

all_submitted : ℕ → List Picture → ℕ
all_submitted n [] = 0
all_submitted n (p ∷ before) = to_submit n p.head + all_submitted n before

over-all_submitted : (n : ℕ) (ps : List Picture) → handed n (latest_head ps) + over_submitted n ps ≡ all_submitted n ps
unfolding over_submitted all_submitted
over-all_submitted n [] = omega arith
over-all_submitted n (p ∷ before) = ap (λ (m : ℕ). to_submit n p.head + m) (over-all_submitted n before)

picture-submits : (n : ℕ) (set : Option (ℕ × Format)) (ps : List Picture)
    → submits_in n (picture_events set ps) ≡ over_submitted n ps
unfolding submits_in over_submitted
picture-submits n None [] = refl
picture-submits n (Some set) [] = refl
picture-submits n set (p ∷ before) =
    let old = store set before in
    let f = finish (latest_head before) old in
    let c = change_format p.format f.next in
    let b = begin_picture p.head p.first c.next in
    let part = picture_part (latest_head before) p.head p.first old in
    let references = reference_set_of set p before in
    let ih = picture-submits n set before in
    let e1 = finish-submits n (latest_head before) old in
    let e2 = change-submits n p.format f.next in
    let e3 = begin-submits n p.head p.first c.next in
    let g1 = submits_in-append n (picture_events set before ++ at_unit p.unit part.events)
    (decode_slices p.head references p.slices) in
    let g2 = submits_in-append n (picture_events set before) (at_unit p.unit part.events) in
    let g3 = submits_in-at n p.unit part.events in
    let g4 = submits-append n (f.events ++ c.events) b.events in
    let g5 = submits-append n f.events c.events in
    let g6 = submits_in-slices n p.head references p.slices in
    omega (arith, ih, e1, e2, e3, g1, g2, g3, g4, g5, g6)

closing-submits : (n : ℕ) (q : Option Head) (s : Store) → submits n (closing q s).events ≡ handed n q
unfolding submits
closing-submits n q s =
    let f = finish q s in
    let e1 = finish-submits n q s in
    let e2 = submits-output n (draining f.next.buffer).outputs in
    let g = submits-append n f.events (output_by draining f.next).events in
    omega (arith, e1, e2, g)

other_number : (m n : ℕ) → m + 1 ≤ n → eqb m n ≡ false
other_number m n h = grind (arith, nat_tests)

none_submitted : (a : Bool) → one (a && false) ≡ 0
none_submitted true = refl
none_submitted false = refl

submitted-above : (n : ℕ) (ps : List Picture) → Numbered ps → (context ps).number ≤ n → all_submitted n ps ≡ 0
unfolding all_submitted
submitted-above n [] h above = refl
submitted-above n (p ∷ before) h above =
    let first : to_submit n p.head ≡ 0 =
    ap (λ (b : Bool). one (not p.skipped && b)) (other_number p.number n above) ∙ none_submitted (not p.skipped) in
    let rest : all_submitted n before ≡ 0 = submitted-above n before h.1 (let k = h.0 in omega (arith, k, above)) in
    omega (arith, first, rest)

submitted-once : (n : ℕ) (ps : List Picture) → Numbered ps → all_submitted n ps ≤ 1
unfolding all_submitted
submitted-once n [] h = omega arith
submitted-once n (p ∷ before) h = by_test (eqb p.number n) refl (submitted-once n before h.1)
  where
    by_test : (c : Bool) → eqb p.number n ≡ c → all_submitted n before ≤ 1
        → to_submit n p.head + all_submitted n before ≤ 1
    by_test true is k =
        let same = equal_numbers p.number n is in
        let number = h.0 in
        let rest : all_submitted n before ≡ 0 = submitted-above n before h.1 (omega (arith, same, number)) in
        let few = one-le (not p.skipped && eqb p.number n) in
        omega (arith, rest, few)
    by_test false is k =
        let first : to_submit n p.head ≡ 0 = ap (λ (b : Bool). one (not p.skipped && b)) is
        ∙ none_submitted (not p.skipped) in
        omega (arith, first, k)

-- with the ending
whole-submits : (n k : ℕ) (stopped : Option Refusal) (v : Stream)
    → submits_in n (picture_events v.first_set v.pictures ++ ending stopped k v) ≤ all_submitted n v.pictures
unfolding submits_in
whole-submits n k None v =
    let s = store v.first_set v.pictures in
    let c = closing (latest_head v.pictures) s in
    let b = picture-submits n v.first_set v.pictures in
    let e = closing-submits n (latest_head v.pictures) s in
    let g1 = submits_in-append n (picture_events v.first_set v.pictures) (at_unit k c.events) in
    let g2 = submits_in-at n k c.events in
    let w = over-all_submitted n v.pictures in
    omega (arith, b, e, g1, g2, w)
whole-submits n k (Some refusal) v =
    let b = picture-submits n v.first_set v.pictures in
    let g1 = submits_in-append n (picture_events v.first_set v.pictures) [] in
    let w = over-all_submitted n v.pictures in
    omega (arith, b, g1, w)

-- no picture is submitted twice
pub submitted_once : (us : List Meaning) (n : ℕ) → times n (submitted_numbers us) ≤ 1
submitted_once us n =
    let h = covered-numbered 0 nothing_yet us tt in
    let few = whole-submits n (length us) (stop us) (covered_stream us) in
    let once = submitted-once n (covered_stream us).pictures h in
    let is = submits_in-numbers n (events us) in
    omega (arith, few, once, is)

-- what is to be output is submitted
output-submitted : (s o c : Bool) → one (not s && o && c) ≤ one (not s && c)
output-submitted true o c = omega arith
output-submitted false true c = omega arith
output-submitted false false true = omega arith
output-submitted false false false = omega arith

come-handed : (n : ℕ) (q : Option Head) → to_come n q ≤ handed n q
come-handed n None = omega arith
come-handed n (Some q) = output-submitted q.skipped q.pic_output_flag (eqb q.number n)

over-submitted : (n : ℕ) (ps : List Picture) → over n ps ≤ over_submitted n ps
unfolding over_submitted
over-submitted n [] = omega arith
over-submitted n (p ∷ before) = let h = come-handed n (latest_head before) in let k =
    over-submitted n before in omega (arith, h, k)

given-submits : (n k : ℕ) (stopped : Option Refusal) (v : Stream) → Numbered v.pictures
    → given_in n (picture_events v.first_set v.pictures ++ ending stopped k v) ≤ submits_in n
    (picture_events v.first_set v.pictures ++ ending stopped k v)
unfolding submits_in
given-submits n k None v h =
    let s = store v.first_set v.pictures in
    let q = latest_head v.pictures in
    let c = closing q s in
    let given = balance n v.first_set v.pictures h in
    let once = all-once n v.pictures h in
    let whole = over-all n v.pictures in
    let e1 = closing-balanced n q s (omega (arith, given, once, whole)) in
    let e2 = closing-submits n q s in
    let submitted = picture-submits n v.first_set v.pictures in
    let g1 = given_in-append n (picture_events v.first_set v.pictures) (at_unit k c.events) in
    let g2 = given_in-at n k c.events in
    let g3 = submits_in-append n (picture_events v.first_set v.pictures) (at_unit k c.events) in
    let g4 = submits_in-at n k c.events in
    let few = over-submitted n v.pictures in
    let last = come-handed n q in
    omega (arith, given, e1, e2, submitted, g1, g2, g3, g4, few, last)
given-submits n k (Some refusal) v h =
    let given = balance n v.first_set v.pictures h in
    let submitted = picture-submits n v.first_set v.pictures in
    let g1 = given_in-append n (picture_events v.first_set v.pictures) [] in
    let g2 = submits_in-append n (picture_events v.first_set v.pictures) [] in
    let few = over-submitted n v.pictures in
    let none = given_in-none n in
    omega (arith, given, submitted, g1, g2, few, none)

-- what is output was submitted
pub output_submitted : (us : List Meaning) (n : ℕ) → times n (output_numbers us) ≤ times n (submitted_numbers us)
output_submitted us n =
    let few = given-submits n (length us) (stop us) (covered_stream us) (covered-numbered 0 nothing_yet us tt) in
    let o = given_in-numbers n (events us) in
    let s = submits_in-numbers n (events us) in
    omega (arith, few, o, s)
