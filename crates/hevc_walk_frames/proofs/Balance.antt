-- What a unit tells of a picture's end, and what may be told later.
use Rattle.std.proofs.Common.{◌≡◌, ◌⊎◌, inl, inr, ℕ, ◌+◌, ◌≤◌, Bool, true, false, not, ◌&&◌, cond, eqb}
use Rattle.std.proofs.Common.{List, [], ◌∷◌, ◌++◌, map, refl, ◌∙◌, ap, subst, arith, Option, Some, None}
use Rattle.std.specs.Prelude.{is_some}
use Rattle.hevc_walk.specs.Meanings.{Format, Slice, Meaning, CodedSlice, Refused, SequenceSet}
use Rattle.hevc_walk.specs.Meanings.{EndOfSequence, EndOfBitstream, Other}
use Rattle.hevc_walk.specs.DependentSlices.{whole_slice, kept_header}
use Rattle.hevc_walk.specs.Pictures.{Head, head, order_count_in_range}
use Rattle.hevc_walk.specs.Buffer.{Entry, bumping, draining, needs_bumping, needs_additional_bumping, with_stored}
use Rattle.hevc_walk.specs.ReferenceSets.{RefPicSet, reference_set, with_marks}
use Rattle.hevc_walk.specs.Walk.{Event, Called, Output, output_of, Part, Store, ◌>>=◌, nothing, call, finish}
use Rattle.hevc_walk.specs.Walk.{store_picture, change_format, begin_picture, make_room, start_decoding, is_decoded}
use Rattle.hevc_walk.specs.Walk.{slice_call, open_sequence, output_by, needed_entries, is_accepted}
use Rattle.hevc_walk.specs.Walk.{NewSequence, NewPicture, BeginPicture, DecodeSlice, SubmitPicture}
use Rattle.hevc_walk.specs.Fates.{one, times}
use Rattle.hevc_walk_fates.proofs.Counts.{given, given-append, waits_as, to_come, for_output, output_drain}
use Rattle.hevc_walk_fates.proofs.Counts.{finish-balanced, change-balanced, begin-balanced}
use Rattle.hevc_walk_units.specs.Units.{Current, NoPicture, SkippedPicture, OpenPicture, Standing, on_store}
use Rattle.hevc_walk_units.specs.Units.{open_head, current_of, finish_current, open_picture}
use Rattle.hevc_walk_units.specs.Units.{decode_current, decode_slice, begin_slice, first_slice}
use Rattle.hevc_walk_units.specs.Units.{refusal_of_later, later_slice, begins_picture, slice_part, whole_part}
use Rattle.hevc_walk_units.specs.Units.{sequence_part, unit_part}
use Rattle.hevc_walk_frames.specs.Told.{ends_in}

-- ---- pictures that aren't to be output, as they begin

abbrev pub hidden : ℕ → List Event → ℕ
hidden n [] = 0
hidden n (Called (NewPicture number t c output s) ∷ es) = one (not output && eqb number n) + hidden n es
hidden n (Called (NewSequence info) ∷ es) = hidden n es
hidden n (Called (BeginPicture number set) ∷ es) = hidden n es
hidden n (Called (DecodeSlice number a b x y) ∷ es) = hidden n es
hidden n (Called (SubmitPicture number) ∷ es) = hidden n es
hidden n (Output number count ∷ es) = hidden n es

pub ends-as : (n : ℕ) (es : List Event) → times n (ends_in es) ≡ given n es + hidden n es
ends-as n [] = refl
ends-as n (Called (NewPicture number t c output s) ∷ es) = by_test output (ends-as n es)
  where
    by_test : (b : Bool) → times n (ends_in es) ≡ given n es + hidden n es
        → times n (cond b (ends_in es) (number ∷ ends_in es)) ≡ given n es + (one (not b && eqb number n) + hidden n es)
    by_test true h = omega (arith, h)
    by_test false h = omega (arith, h)
ends-as n (Called (NewSequence info) ∷ es) = ends-as n es
ends-as n (Called (BeginPicture number set) ∷ es) = ends-as n es
ends-as n (Called (DecodeSlice number a b x y) ∷ es) = ends-as n es
ends-as n (Called (SubmitPicture number) ∷ es) = ends-as n es
ends-as n (Output number count ∷ es) = let h = ends-as n es in omega (arith, h)

pub hidden-append : (n : ℕ) (xs ys : List Event) → hidden n (xs ++ ys) ≡ hidden n xs + hidden n ys
hidden-append n [] ys = omega arith
hidden-append n (Called (NewPicture number t c output s) ∷ xs) ys = let h = hidden-append n xs ys in omega (arith, h)
hidden-append n (Called (NewSequence info) ∷ xs) ys = hidden-append n xs ys
hidden-append n (Called (BeginPicture number set) ∷ xs) ys = hidden-append n xs ys
hidden-append n (Called (DecodeSlice number a b x y) ∷ xs) ys = hidden-append n xs ys
hidden-append n (Called (SubmitPicture number) ∷ xs) ys = hidden-append n xs ys
hidden-append n (Output number count ∷ xs) ys = hidden-append n xs ys

hidden-outputs : (n : ℕ) (es : List Entry) → hidden n (map output_of es) ≡ 0
hidden-outputs n [] = refl
hidden-outputs n (e ∷ es) = hidden-outputs n es

pub hidden-drain : (n : ℕ) (s : Store) → hidden n (output_by draining s).events ≡ 0
hidden-drain n s = hidden-outputs n (draining s.buffer).outputs

pub hidden-finish : (n : ℕ) (q : Option Head) (s : Store) → hidden n (finish q s).events ≡ 0
unfolding finish store_picture
hidden-finish n None s = refl
hidden-finish n (Some q) s = by_test q.skipped
  where
    by_test : (b : Bool) → hidden n (cond b (nothing s) (store_picture q s)).events ≡ 0
    by_test true = refl
    by_test false = hidden-outputs n (bumping (needs_additional_bumping q.limits) (with_stored q s.buffer)).outputs

pub hidden-change : (n : ℕ) (f : Format) (s : Store) → hidden n (change_format f s).events ≡ 0
unfolding change_format
hidden-change n f s = by_test (is_accepted f s.accepted)
  where
    by_test : (b : Bool) → hidden n (cond b (nothing s) (output_by draining s >>= open_sequence f)).events ≡ 0
    by_test true = refl
    by_test false = hidden-append n (output_by draining s).events (open_sequence f (output_by draining s).next).events
        ∙ (let h = hidden-drain n s in omega (arith, h))

hidden-room : (n : ℕ) (p : Head) (s : Store) → hidden n (make_room p s).events ≡ 0
unfolding make_room
hidden-room n p s = by_tests p.no_output_of_prior_pics p.starts_sequence
  where
    by_tests : (d r : Bool) → hidden n (cond d (nothing (record s { buffer = [] }))
        (cond r (output_by draining s)
        (output_by (bumping (needs_bumping p.limits)) (record s { buffer = needed_entries s.buffer })))).events ≡ 0
    by_tests true r = refl
    by_tests false true = hidden-drain n s
    by_tests false false = hidden-outputs n (bumping (needs_bumping p.limits) (needed_entries s.buffer)).outputs

-- of a picture that begins
abbrev as_begun : ℕ → Head → ℕ
as_begun n p = cond (is_decoded p) (one (not p.pic_output_flag && eqb p.number n)) 0

hidden-begin : (n : ℕ) (p : Head) (slice : Slice) (s : Store) → hidden n (begin_picture p slice s).events ≡ as_begun n p
unfolding begin_picture start_decoding
hidden-begin n p slice s = by_test (is_decoded p)
  where
    marked : Store
    marked = record s { buffer = with_marks p slice s.buffer }

    by_test : (b : Bool)
        → hidden n (cond b (make_room p marked >>= start_decoding p (reference_set p slice s.buffer)) (nothing s)).events
        ≡ cond b (one (not p.pic_output_flag && eqb p.number n)) 0
    by_test true =
        hidden-append n (make_room p marked).events
        (start_decoding p (reference_set p slice s.buffer) (make_room p marked).next).events
        ∙ (let h = hidden-room n p marked in omega (arith, h))
    by_test false = refl

-- ---- a part of the walk

-- how often a picture's end may still be told: it waits for output, or its slices come
abbrev pub pending : ℕ → Standing → ℕ
pending n s = waits_as n s.store.buffer + to_come n (open_head s.current)

-- A part tells no more ends than were pending, and counts no picture.
pub record Spends (n : ℕ) (s : Standing) (part : Part Standing) : Type 0 where
  pub number : part.next.next.number ≡ s.next.number
  pub sum : given n part.events + hidden n part.events + pending n part.next ≤ pending n s

-- It counts one, whose end may be told.
pub record Begins (n : ℕ) (s : Standing) (part : Part Standing) : Type 0 where
  pub number : part.next.next.number ≡ s.next.number + 1
  pub sum : given n part.events + hidden n part.events + pending n part.next
      ≤ pending n s + one (eqb s.next.number n)

idle : (n : ℕ) (s t : Standing) → t.next.number ≡ s.next.number → pending n t ≡ pending n s → Spends n s (nothing t)
idle n s t same is = record { number = same; sum = omega (arith, is) }

pub finish-spends : (n : ℕ) (s : Standing) → pending n s ≤ 1 → Spends n s (finish_current s)
finish-spends n s once =
    let e = finish-balanced n (open_head s.current) s.store once in
    let h = hidden-finish n (open_head s.current) s.store in
    record { number = refl; sum = omega (arith, e, h) }

pub change-spends : (n : ℕ) (f : Format) (s : Standing) → Spends n s (on_store (change_format f) s)
change-spends n f s =
    let e = change-balanced n f s.store in
    let h = hidden-change n f s.store in
    record { number = refl; sum = omega (arith, e, h) }

pub drain-spends : (n : ℕ) (s : Standing) → Spends n s (on_store (output_by draining) s)
drain-spends n s =
    let e = output_drain n s.store in
    let h = hidden-drain n s.store in
    record { number = refl; sum = omega (arith, e, h) }

pub then : (n : ℕ) (s : Standing) (part : Part Standing) (f : Standing → Part Standing) → Spends n s part
    → Spends n part.next (f part.next) → Spends n s (part >>= f)
then n s part f h k =
    let g = given-append n part.events (f part.next).events in
    let i = hidden-append n part.events (f part.next).events in
    let a = h.sum in
    let b = k.sum in
    record { number = k.number ∙ h.number; sum = omega (arith, g, i, a, b) }

then_begins : (n : ℕ) (s : Standing) (part : Part Standing) (f : Standing → Part Standing) → Spends n s part
    → Begins n part.next (f part.next) → Begins n s (part >>= f)
then_begins n s part f h k =
    let g = given-append n part.events (f part.next).events in
    let i = hidden-append n part.events (f part.next).events in
    let a = h.sum in
    let b : given n (f part.next).events + hidden n (f part.next).events + pending n (f part.next).next
    ≤ pending n part.next + one (eqb s.next.number n) =
    subst (λ (m : ℕ). given n (f part.next).events + hidden n (f part.next).events + pending n (f part.next).next
    ≤ pending n part.next + one (eqb m n)) h.number k.sum in
    record { number = k.number ∙ ap (λ (m : ℕ). m + 1) h.number; sum = omega (arith, g, i, a, b) }

begins_then : (n : ℕ) (s : Standing) (part : Part Standing) (f : Standing → Part Standing) → Begins n s part
    → Spends n part.next (f part.next) → Begins n s (part >>= f)
begins_then n s part f h k =
    let g = given-append n part.events (f part.next).events in
    let i = hidden-append n part.events (f part.next).events in
    let a = h.sum in
    let b = k.sum in
    record { number = k.number ∙ h.number; sum = omega (arith, g, i, a, b) }

-- the end of a picture that has begun is told at once, or may be told later
own : (n : ℕ) (p : Head) (set : RefPicSet)
    → as_begun n p + to_come n (open_head (current_of p set)) ≤ one (eqb p.number n)
own n p set = by_tests (order_count_in_range p) p.skipped p.pic_output_flag (eqb p.number n)
  where
    by_skipped : (s : Bool) (o b : Bool) → p.skipped ≡ s
        → to_come n (open_head (cond s SkippedPicture (OpenPicture p set))) ≡ cond s 0 (for_output n p)
    by_skipped true o b is = refl
    by_skipped false o b is = refl

    as_skipped : to_come n (open_head (current_of p set)) ≡ cond p.skipped 0 (for_output n p)
    as_skipped = by_skipped p.skipped p.pic_output_flag true refl

    sum : (r s o b : Bool)
        → cond (r && not s) (one (not o && b)) 0 + cond s 0 (one (not s && o && b)) ≤ one b
    sum true true o b = omega arith
    sum true false true true = omega arith
    sum true false true false = omega arith
    sum true false false true = omega arith
    sum true false false false = omega arith
    sum false true o b = omega arith
    sum false false true true = omega arith
    sum false false true false = omega arith
    sum false false false true = omega arith
    sum false false false false = omega arith

    by_tests : (r s o b : Bool) → as_begun n p + to_come n (open_head (current_of p set)) ≤ one (eqb p.number n)
    by_tests r s o b =
        let h = as_skipped in
        let k = sum (order_count_in_range p) p.skipped p.pic_output_flag (eqb p.number n) in
        omega (arith, h, k)

open-begins : (n : ℕ) (p : Head) (slice : Slice) (s : Standing) → p.number ≡ s.next.number
    → s.current ≡ NoPicture → pending n s ≤ 1 → Begins n s (open_picture p slice s)
open-begins n p slice s same none once =
    let none_open : to_come n (open_head s.current) ≡ 0 = ap (λ (c : Current). to_come n (open_head c)) none in
    let e = begin-balanced n p slice s.store (omega (arith, once)) in
    let h = hidden-begin n p slice s.store in
    let o = own n p (reference_set p slice s.store.buffer) in
    let o' : as_begun n p + to_come n (open_head (current_of p (reference_set p slice s.store.buffer)))
    ≤ one (eqb s.next.number n) =
    subst (λ (m : ℕ). as_begun n p + to_come n (open_head (current_of p (reference_set p slice s.store.buffer)))
    ≤ one (eqb m n)) same o in
    record { number = ap (λ (m : ℕ). m + 1) same; sum = omega (arith, e, h, o', none_open) }

decode-spends : (n : ℕ) (slice : Slice) (s : Standing) → Spends n s (decode_slice slice s)
decode-spends n slice s = by_current s.current
  where
    by_test : (b : Bool) (p : Head) (set : RefPicSet)
        → Spends n s (cond b (call (slice_call p set slice) s) (nothing s))
    by_test true p set = record { number = refl; sum = omega arith }
    by_test false p set = record { number = refl; sum = omega arith }

    by_current : (c : Current) → Spends n s (decode_current c slice s)
    by_current NoPicture = record { number = refl; sum = omega arith }
    by_current SkippedPicture = record { number = refl; sum = omega arith }
    by_current (OpenPicture p set) = by_test (is_decoded p) p set

pub begin-begins : (n : ℕ) (slice : Slice) (s : Standing) → s.current ≡ NoPicture → pending n s ≤ 1
    → Begins n s (begin_slice slice s)
unfolding head
begin-begins n slice s none once =
    let p = head s.next slice in
    let c = change-spends n p.format s in
    let t = (on_store (change_format p.format) s).next in
    let a = c.sum in
    begins_then n s (on_store (change_format p.format) s >>= open_picture p slice) (decode_slice slice)
    (then_begins n s (on_store (change_format p.format) s) (open_picture p slice) c
    (open-begins n p slice t refl none (omega (arith, a, once))))
    (decode-spends n slice (open_picture p slice t).next)

first-begins : (n : ℕ) (slice : Slice) (s : Standing) → pending n s ≤ 1 → Begins n s (first_slice slice s)
first-begins n slice s once =
    let f = finish-spends n s once in
    let a = f.sum in
    then_begins n s (finish_current s) (begin_slice slice) f
    (begin-begins n slice (finish_current s).next refl (omega (arith, a, once)))

later-spends : (n : ℕ) (slice : Slice) (s : Standing) → Spends n s (later_slice slice s)
later-spends n slice s = by_test (is_some (refusal_of_later s.current slice s.store.accepted))
  where
    by_test : (b : Bool) → Spends n s (cond b (nothing s) (decode_slice slice s))
    by_test true = idle n s s refl refl
    by_test false = decode-spends n slice s

abbrev pub Settles : ℕ → Standing → Part Standing → Type 0
Settles n s part = Spends n s part ⊎ Begins n s part

slice-settles : (n : ℕ) (slice : Slice) (s : Standing) → pending n s ≤ 1 → Settles n s (slice_part slice s)
slice-settles n slice s once = by_test (begins_picture s.current slice)
  where
    by_test : (b : Bool) → Settles n s (cond b (first_slice slice s) (later_slice slice s))
    by_test true = inr (first-begins n slice s once)
    by_test false = inl (later-spends n slice s)

whole-settles : (n : ℕ) (slice : Option Slice) (s : Standing) → pending n s ≤ 1 → Settles n s (whole_part slice s)
whole-settles n None s once = inl (idle n s s refl refl)
whole-settles n (Some slice) s once = slice-settles n slice s once

pub open-spends : (n : ℕ) (format : Format) (s : Standing) → Spends n s (on_store (open_sequence format) s)
open-spends n format s = record { number = refl; sum = omega arith }

sequence-spends : (n : ℕ) (accepted : Option Format) (format : Format) (s : Standing)
    → Spends n s (sequence_part accepted format s)
sequence-spends n None format s = open-spends n format s
sequence-spends n (Some accepted) format s = idle n s s refl refl

of-kept : (n : ℕ) (slice : Slice) (s : Standing) (part : Part Standing)
    → Settles n (record s { kept = kept_header s.kept slice }) part → Settles n s part
of-kept n slice s part (inl h) = inl (record { number = h.number; sum = h.sum })
of-kept n slice s part (inr h) = inr (record { number = h.number; sum = h.sum })

pub unit-settles : (n : ℕ) (u : Meaning) (s : Standing) → pending n s ≤ 1 → Settles n s (unit_part u s)
unit-settles n (SequenceSet format) s once = inl (sequence-spends n s.store.accepted format s)
unit-settles n (CodedSlice slice) s once =
    of-kept n slice s _ (whole-settles n (whole_slice s.kept slice) (record s { kept = kept_header s.kept slice }) once)
unit-settles n EndOfSequence s once = inl (record { number = refl; sum = omega arith })
unit-settles n EndOfBitstream s once = inl (record { number = refl; sum = omega arith })
unit-settles n Other s once = inl (idle n s s refl refl)
unit-settles n (Refused cause) s once = inl (idle n s s refl refl)
