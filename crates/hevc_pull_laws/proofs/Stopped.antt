-- A unit that was done up to a call, or refused.
use Rattle.std.proofs.Common.{◌≡◌, inl, inr, ℕ, ◌≤◌, Bool, true, false, not, ◌&&◌, cond, List, []}
use Rattle.std.proofs.Common.{◌∷◌, ◌++◌, append_assoc, append-nil, refl, sym, ◌∙◌, ap, subst, arith, Option, Some, None}
use Rattle.std.specs.Prelude.{is_some}
use Rattle.hevc_walk.specs.Meanings.{Format, Slice, Meaning, CodedSlice, Refused, SequenceSet}
use Rattle.hevc_walk.specs.Meanings.{EndOfSequence, EndOfBitstream, Other, same_format}
use Rattle.hevc_walk.specs.DependentSlices.{whole_slice}
use Rattle.hevc_walk.specs.Pictures.{Head, head, order_count_in_range}
use Rattle.hevc_walk.specs.Walk.{Event, Called, Call, Part, ◌>>=◌, nothing, change_format}
use Rattle.hevc_walk.specs.Walk.{NewSequence, NewPicture, BeginPicture, DecodeSlice, SubmitPicture}
use Rattle.hevc_walk.specs.Walk.{is_accepted}
use Rattle.hevc_walk.specs.Refusals.{Cause, UnitRefused, NoIndependentSlice, ChangedMidPicture, PocOutOfRange}
use Rattle.hevc_walk.specs.Refusals.{refusal_of_picture}
use Rattle.hevc_walk_units.specs.Units.{Current, NoPicture, SkippedPicture, OpenPicture, Standing, on_store}
use Rattle.hevc_walk_units.specs.Units.{open_head, finish_current, begin_slice, first_slice, later_slice}
use Rattle.hevc_walk_units.specs.Units.{refusal_of_later, begins_picture, whole_part}
use Rattle.hevc_walk_units.specs.Units.{refusal_at, refusal_of_whole, changed_by, open_picture, decode_slice}
use Rattle.hevc_walk_frames.proofs.Balance.{pending, Spends, Settles, finish-spends}
use Rattle.hevc_walk_frames.proofs.Balance.{change-spends, open-spends, unit-settles, then}
use Rattle.hevc_driver.specs.Moments.{kept_behind, with_kept, given_up, drained, not_stored, left_at, left_by}
use Rattle.hevc_driver.specs.Moments.{step_part, negotiates, negotiates_by, opening, opening_by}
use Rattle.hevc_driver.proofs.PictureBegins.{begin_accepted, starts_nothing}
use Rattle.hevc_driver.proofs.Taking.{finish_accepted}
use Rattle.hevc_pull_laws.proofs.Parts.{prefix, none_is, nowhere, none-append, within}
use Rattle.hevc_pull_laws.proofs.Parts.{is_submission, is_opening, of_submissions, other_submissions}
use Rattle.hevc_pull_laws.proofs.Parts.{other_openings, first_of_finish, none_in_change}
use Rattle.hevc_pull_laws.proofs.Parts.{none_in_begin, none_in_slice}

-- these events were done, and led to this standing
abbrev pub done_to : List Event → Standing → Part Standing
done_to es s = record { events = es; next = s }

-- ---- all that a unit asks

pub step-settles : (n : ℕ) (u : Meaning) (s : Standing) → pending n s ≤ 1 → Settles n s (step_part u s)
step-settles n (SequenceSet format) s once = inl (open-spends n format s)
step-settles n (CodedSlice slice) s once = unit-settles n (CodedSlice slice) s once
step-settles n EndOfSequence s once = unit-settles n EndOfSequence s once
step-settles n EndOfBitstream s once = unit-settles n EndOfBitstream s once
step-settles n Other s once = unit-settles n Other s once
step-settles n (Refused cause) s once = unit-settles n (Refused cause) s once

-- a part that began with the header kept
behind : (n : ℕ) (slice : Slice) (s : Standing) (part : Part Standing) → Spends n (with_kept slice s) part
    → Spends n s part
behind n slice s part h = record { number = h.number; sum = h.sum }

pub kept-spends : (n : ℕ) (u : Meaning) (s : Standing) (part : Part Standing) → Spends n (kept_behind u s) part
    → Spends n s part
kept-spends n (CodedSlice slice) s part h = behind n slice s part h
kept-spends n (SequenceSet format) s part h = h
kept-spends n EndOfSequence s part h = h
kept-spends n EndOfBitstream s part h = h
kept-spends n Other s part h = h
kept-spends n (Refused cause) s part h = h

pub kept-once : (n : ℕ) (u : Meaning) (s : Standing) → pending n s ≤ 1 → pending n (kept_behind u s) ≤ 1
kept-once n (CodedSlice slice) s h = h
kept-once n (SequenceSet format) s h = h
kept-once n EndOfSequence s h = h
kept-once n EndOfBitstream s h = h
kept-once n Other s h = h
kept-once n (Refused cause) s h = h

-- the picture that was open is over
pub finishes : (n : ℕ) (u : Meaning) (s : Standing) → pending n s ≤ 1
    → Spends n s (finish_current (kept_behind u s))
finishes n u s once =
    kept-spends n u s (finish_current (kept_behind u s))
    (finish-spends n (kept_behind u s) (kept-once n u s once))

-- a negotiation is opened
opens-slice : (n : ℕ) (whole : Option Slice) (s : Standing) → pending n s ≤ 1 → Spends n s (opening_by whole s)
opens-slice n None s once = record { number = refl; sum = omega arith }
opens-slice n (Some slice) s once =
    then n s (finish_current s) (on_store (change_format slice.format)) (finish-spends n s once)
    (change-spends n slice.format (finish_current s).next)

pub opens : (n : ℕ) (u : Meaning) (s : Standing) → pending n s ≤ 1 → Spends n s (opening u s)
opens n (SequenceSet format) s once = open-spends n format s
opens n (CodedSlice slice) s once =
    behind n slice s (opening_by (whole_slice s.kept slice) (with_kept slice s))
    (opens-slice n (whole_slice s.kept slice) (with_kept slice s) once)
opens n EndOfSequence s once = record { number = refl; sum = omega arith }
opens n EndOfBitstream s once = record { number = refl; sum = omega arith }
opens n Other s once = record { number = refl; sum = omega arith }
opens n (Refused cause) s once = record { number = refl; sum = omega arith }

-- nothing was told, and the picture may have been given up
pub gives_up : (n : ℕ) (s : Standing) → Spends n s (done_to [] (given_up s))
gives_up n s = record { number = refl; sum = omega arith }

pub stays : (n : ℕ) (s : Standing) → Spends n s (done_to [] s)
stays n s = record { number = refl; sum = omega arith }

-- it was submitted, and no more
pub submits : (n m : ℕ) (s : Standing) → Spends n s (done_to (Called (SubmitPicture m) ∷ []) (not_stored s))
submits n m s = record { number = refl; sum = omega arith }

-- ---- up to a call

-- a part that gave up its picture and told less
pub gave_up : (n : ℕ) (s : Standing) (part : Part Standing) (done rest : List Event)
    → part.events ≡ done ++ rest → Settles n s part → Settles n s (done_to done (given_up part.next))
gave_up n s part done rest whole (inl h) =
    let p = prefix n part.events done rest whole in
    let k = h.sum in
    inl (record { number = h.number; sum = omega (arith, p, k) })
gave_up n s part done rest whole (inr h) =
    let p = prefix n part.events done rest whole in
    let k = h.sum in
    inr (record { number = h.number; sum = omega (arith, p, k) })

-- what a part does that has one event
single : (e x : Event) (done rest : List Event) → x ∷ [] ≡ done ++ e ∷ rest → done ≡ []
single e x [] rest whole = refl
single e x (d ∷ []) rest whole = absurd (cc whole)
single e x (d ∷ f ∷ done) rest whole = absurd (cc whole)

empty : (e : Event) (done rest : List Event) → [] ≡ done ++ e ∷ rest → ⊥
empty e [] rest whole = absurd (cc whole)
empty e (d ∷ done) rest whole = absurd (cc whole)

-- a unit that isn't a slice has at most one event
abbrev AtFirst : Meaning → Standing → Type 0
AtFirst u s = (e : Event) (done rest : List Event) → (step_part u s).events ≡ done ++ e ∷ rest → done ≡ []

-- the submission of the picture before comes first
slice_submits : (whole : Option Slice) (s : Standing) (m : ℕ) (done rest : List Event)
    → (whole_part whole s).events ≡ done ++ Called (SubmitPicture m) ∷ rest → done ≡ []
unfolding head
slice_submits None s m done rest whole = absurd (empty (Called (SubmitPicture m)) done rest whole)
slice_submits (Some slice) s m done rest whole = by_test (begins_picture s.current slice) whole
  where
    t : Standing
    t = (finish_current s).next

    p : Head
    p = head t.next slice

    changed : Part Standing
    changed = on_store (change_format p.format) t

    later : (b : Bool) → (cond b (nothing s) (decode_slice slice s)).events ≡ done ++ Called (SubmitPicture m) ∷ rest → ⊥
    later true h = empty (Called (SubmitPicture m)) done rest h
    later false h = nowhere is_submission (decode_slice slice s).events done (Called (SubmitPicture m)) rest
        (none_in_slice is_submission other_submissions slice s) refl h

    others : none_is is_submission (begin_slice slice t).events ≡ true
    others = none-append is_submission (changed >>= open_picture p slice).events
        (decode_slice slice (changed >>= open_picture p slice).next).events
        (none-append is_submission changed.events (open_picture p slice changed.next).events (none_in_change p.format t.store)
        (none_in_begin is_submission other_submissions p slice changed.next.store))
        (none_in_slice is_submission other_submissions slice (changed >>= open_picture p slice).next)

    by_test : (b : Bool) → (cond b (first_slice slice s) (later_slice slice s)).events
        ≡ done ++ Called (SubmitPicture m) ∷ rest → done ≡ []
    by_test true h = first_of_finish is_submission of_submissions (open_head s.current) s.store
        (begin_slice slice t).events done (Called (SubmitPicture m)) rest others refl h
    by_test false h = absurd (later (is_some (refusal_of_later s.current slice s.store.accepted)) h)

unsubmitted : (n : ℕ) (u : Meaning) (s : Standing) (m : ℕ) (done rest : List Event)
    → (step_part u s).events ≡ done ++ Called (SubmitPicture m) ∷ rest
    → Spends n s (done_to done (given_up (kept_behind u s)))
unsubmitted n u s m done rest whole =
    subst (λ (es : List Event). Spends n s (done_to es (given_up (kept_behind u s)))) (sym (nothing_before u whole))
    (kept-spends n u s (done_to [] (given_up (kept_behind u s))) (gives_up n (kept_behind u s)))
  where
    nothing_before : (u : Meaning) → (step_part u s).events ≡ done ++ Called (SubmitPicture m) ∷ rest → done ≡ []
    nothing_before (SequenceSet format) h = single (Called (SubmitPicture m)) (Called (NewSequence format)) done rest h
    nothing_before (CodedSlice slice) h = slice_submits (whole_slice s.kept slice) (with_kept slice s) m done rest h
    nothing_before EndOfSequence h = absurd (empty (Called (SubmitPicture m)) done rest h)
    nothing_before EndOfBitstream h = absurd (empty (Called (SubmitPicture m)) done rest h)
    nothing_before Other h = absurd (empty (Called (SubmitPicture m)) done rest h)
    nothing_before (Refused cause) h = absurd (empty (Called (SubmitPicture m)) done rest h)

-- a format is negotiated after the picture before, and before the next
slice_opens : (n : ℕ) (whole : Option Slice) (s : Standing) (f : Format) (done rest : List Event) → pending n s ≤ 1
    → (whole_part whole s).events ≡ done ++ Called (NewSequence f) ∷ rest
    → Spends n s (done_to done (drained (finish_current s).next))
unfolding head
slice_opens n None s f done rest once whole = absurd (empty (Called (NewSequence f)) done rest whole)
slice_opens n (Some slice) s f done rest once whole = by_test (begins_picture s.current slice) whole
  where
    t : Standing
    t = (finish_current s).next

    p : Head
    p = head t.next slice

    changed : Part Standing
    changed = on_store (change_format p.format) t

    opened : Part Standing
    opened = open_picture p slice changed.next

    decoded : Part Standing
    decoded = decode_slice slice opened.next

    before : Part Standing
    before = finish_current s >>= on_store (change_format p.format)

    later : (b : Bool) → (cond b (nothing s) (decode_slice slice s)).events ≡ done ++ Called (NewSequence f) ∷ rest → ⊥
    later true h = empty (Called (NewSequence f)) done rest h
    later false h = nowhere is_opening (decode_slice slice s).events done (Called (NewSequence f)) rest
        (none_in_slice is_opening other_openings slice s) refl h

    others : none_is is_opening (opened.events ++ decoded.events) ≡ true
    others = none-append is_opening opened.events decoded.events
        (none_in_begin is_opening other_openings p slice changed.next.store)
        (none_in_slice is_opening other_openings slice opened.next)

    apart : (xs zs bs cs : List Event) → (xs ++ zs) ++ (bs ++ cs) ≡ xs ++ ((zs ++ bs) ++ cs)
    apart xs zs bs cs =
        append_assoc xs zs (bs ++ cs) ∙ ap (λ (l : List Event). xs ++ l) (sym (append_assoc zs bs cs))

    first : (first_slice slice s).events ≡ done ++ Called (NewSequence f) ∷ rest
        → Spends n s (done_to done (drained t))
    first h =
        let w = within is_opening before.events (opened.events ++ decoded.events) done (Called (NewSequence f)) rest
        others refl (apart (finish_current s).events changed.events opened.events decoded.events ∙ h) in
        let k = prefix n before.events done (Called (NewSequence f) ∷ w.rest) w.whole in
        let b = then n s (finish_current s) (on_store (change_format p.format)) (finish-spends n s once)
        (change-spends n p.format t) in
        let sum = b.sum in
        record { number = refl; sum = omega (arith, k, sum) }

    by_test : (b : Bool) → (cond b (first_slice slice s) (later_slice slice s)).events
        ≡ done ++ Called (NewSequence f) ∷ rest → Spends n s (done_to done (drained t))
    by_test true h = first h
    by_test false h = absurd (later (is_some (refusal_of_later s.current slice s.store.accepted)) h)

unopened : (n : ℕ) (u : Meaning) (s : Standing) (f : Format) (done rest : List Event) → pending n s ≤ 1
    → (step_part u s).events ≡ done ++ Called (NewSequence f) ∷ rest
    → Spends n s (done_to done (left_at (NewSequence f) u s))
unopened n (SequenceSet format) s f done rest once h =
    subst (λ (es : List Event). Spends n s (done_to es s))
    (sym (single (Called (NewSequence f)) (Called (NewSequence format)) done rest h)) (stays n s)
unopened n (CodedSlice slice) s f done rest once h =
    behind n slice s (done_to done (drained (finish_current (with_kept slice s)).next))
    (slice_opens n (whole_slice s.kept slice) (with_kept slice s) f done rest once h)
unopened n EndOfSequence s f done rest once h = absurd (empty (Called (NewSequence f)) done rest h)
unopened n EndOfBitstream s f done rest once h = absurd (empty (Called (NewSequence f)) done rest h)
unopened n Other s f done rest once h = absurd (empty (Called (NewSequence f)) done rest h)
unopened n (Refused cause) s f done rest once h = absurd (empty (Called (NewSequence f)) done rest h)

-- whichever call was refused
pub stopped : (n : ℕ) (u : Meaning) (s t : Standing) (done rest : List Event) (c : Call) → pending n s ≤ 1
    → (step_part u s).events ≡ done ++ Called c ∷ rest → t ≡ left_at c u s → Settles n s (done_to done t)
stopped n u s t done rest c once whole left =
    subst (λ (v : Standing). Settles n s (done_to done v)) (sym left) (by_call c whole)
  where
    by_call : (c : Call) → (step_part u s).events ≡ done ++ Called c ∷ rest
        → Settles n s (done_to done (left_at c u s))
    by_call (SubmitPicture m) w = inl (unsubmitted n u s m done rest w)
    by_call (NewSequence f) w = inl (unopened n u s f done rest once w)
    by_call (NewPicture m k count o i) w =
        gave_up n s (step_part u s) done (Called (NewPicture m k count o i) ∷ rest) w (step-settles n u s once)
    by_call (BeginPicture m set) w =
        gave_up n s (step_part u s) done (Called (BeginPicture m set) ∷ rest) w (step-settles n u s once)
    by_call (DecodeSlice m a b x y) w =
        gave_up n s (step_part u s) done (Called (DecodeSlice m a b x y) ∷ rest) w (step-settles n u s once)

-- ---- a unit that is refused

-- the first slice of a picture whose order count isn't in range
begins_nothing : (slice : Slice) (s : Standing) → is_accepted slice.format s.store.accepted ≡ true
    → refusal_of_picture (head s.next slice) ≡ Some PocOutOfRange → (begin_slice slice s).events ≡ []
begins_nothing slice s accepted refused =
    ap (λ (q : Part Standing). q.events) (begin_accepted slice s accepted)
    ∙ starts_nothing (head s.next slice) slice s refused

abbrev RefusedSlice : ℕ → (slice : Slice) → Standing → Option Slice → Cause → Type 0
RefusedSlice n slice s whole cause =
    Spends n (with_kept slice s)
    (done_to (whole_part whole (with_kept slice s)).events (left_by cause (CodedSlice slice) s))

refused_first : (n : ℕ) (slice w : Slice) (s : Standing) (cause : Cause) → pending n s ≤ 1
    → is_accepted w.format s.store.accepted ≡ true
    → refusal_of_picture (head (finish_current s).next.next w) ≡ Some cause
    → Spends n (with_kept slice s)
    (done_to (first_slice w (with_kept slice s)).events (left_by cause (CodedSlice slice) s))
refused_first n slice w s cause once accepted refused =
    by_range (order_count_in_range (head t.next w)) refused
  where
    k : Standing
    k = with_kept slice s

    t : Standing
    t = (finish_current k).next

    none : refusal_of_picture (head t.next w) ≡ Some PocOutOfRange → (begin_slice w t).events ≡ []
    none h = begins_nothing w t
        (ap (is_accepted w.format) (finish_accepted (open_head s.current) s.store) ∙ accepted) h

    finished : refusal_of_picture (head t.next w) ≡ Some PocOutOfRange
        → Spends n k (done_to (first_slice w k).events t)
    finished h =
        subst (λ (es : List Event). Spends n k (done_to es t))
        (sym (ap (λ (es : List Event). (finish_current k).events ++ es) (none h) ∙ append-nil (finish_current k).events))
        (finish-spends n k once)

    by_cause : PocOutOfRange ≡ cause
        → Spends n k (done_to (first_slice w k).events (left_by cause (CodedSlice slice) s))
    by_cause is =
        subst (λ (c : Cause). Spends n k (done_to (first_slice w k).events (left_by c (CodedSlice slice) s))) is
        (finished (refused ∙ ap (λ (c : Cause). Some c) (sym is)))

    by_range : (b : Bool) → cond b None (Some PocOutOfRange) ≡ Some cause
        → Spends n k (done_to (first_slice w k).events (left_by cause (CodedSlice slice) s))
    by_range true h = absurd (cc h)
    by_range false h = by_cause (cc h)

refused_later : (n : ℕ) (slice w : Slice) (s : Standing) (cause : Cause)
    → refusal_of_later s.current w s.store.accepted ≡ Some cause
    → Spends n (with_kept slice s)
    (done_to (later_slice w (with_kept slice s)).events (left_by cause (CodedSlice slice) s))
refused_later n slice w s cause refused =
    subst (λ (es : List Event). Spends n k (done_to es (left_by cause (CodedSlice slice) s))) (sym none)
    (subst (λ (v : Standing). Spends n k (done_to [] v)) (sym (by_current s.current refused)) (gives_up n k))
  where
    k : Standing
    k = with_kept slice s

    none : (later_slice w k).events ≡ []
    none = ap (λ (o : Option Cause). (cond (is_some o) (nothing k) (decode_slice w k)).events) refused

    by_cause : (a f : Format) → ChangedMidPicture a f ≡ cause → left_by cause (CodedSlice slice) s ≡ given_up k
    by_cause a f is = ap (λ (c : Cause). left_by c (CodedSlice slice) s) (sym is)

    by_same : (b : Bool) (a f : Format) → cond b None (Some (ChangedMidPicture a f)) ≡ Some cause
        → left_by cause (CodedSlice slice) s ≡ given_up k
    by_same true a f h = absurd (cc h)
    by_same false a f h = by_cause a f (cc h)

    by_accepted : (o : Option Format) → changed_by w.format o ≡ Some cause
        → left_by cause (CodedSlice slice) s ≡ given_up k
    by_accepted None h = absurd (cc h)
    by_accepted (Some a) h = by_same (same_format a w.format) a w.format h

    by_current : (c : Current) → refusal_of_later c w s.store.accepted ≡ Some cause
        → left_by cause (CodedSlice slice) s ≡ given_up k
    by_current NoPicture h = absurd (cc h)
    by_current SkippedPicture h = absurd (cc h)
    by_current (OpenPicture p set) h = by_accepted s.store.accepted h

not_true : (b : Bool) → not b ≡ false → b ≡ true
not_true true h = refl
not_true false h = absurd (cc h)

refused_slice : (n : ℕ) (slice : Slice) (s : Standing) (whole : Option Slice) (cause : Cause) → pending n s ≤ 1
    → negotiates_by whole s ≡ false → refusal_of_whole whole s ≡ Some cause → RefusedSlice n slice s whole cause
refused_slice n slice s None cause once accepted refused = by_cause (cc refused)
  where
    by_cause : NoIndependentSlice ≡ cause → RefusedSlice n slice s None cause
    by_cause is =
        subst (λ (c : Cause). RefusedSlice n slice s None c) is (record { number = refl; sum = omega arith })
refused_slice n slice s (Some w) cause once accepted refused =
    by_test (begins_picture s.current w) accepted refused
  where
    by_test : (b : Bool) → b && not (is_accepted w.format s.store.accepted) ≡ false
        → cond b (refusal_of_picture (head (finish_current s).next.next w))
        (refusal_of_later s.current w s.store.accepted) ≡ Some cause
        → Spends n (with_kept slice s)
        (done_to (cond b (first_slice w (with_kept slice s)) (later_slice w (with_kept slice s))).events
        (left_by cause (CodedSlice slice) s))
    by_test true a h =
        refused_first n slice w s cause once (not_true (is_accepted w.format s.store.accepted) a) h
    by_test false a h = refused_later n slice w s cause h

pub refused : (n : ℕ) (u : Meaning) (s : Standing) (cause : Cause) → pending n s ≤ 1 → negotiates u s ≡ false
    → refusal_at u s ≡ Some cause → Spends n s (done_to (step_part u s).events (left_by cause u s))
refused n (CodedSlice slice) s cause once accepted h =
    behind n slice s
    (done_to (whole_part (whole_slice s.kept slice) (with_kept slice s)).events (left_by cause (CodedSlice slice) s))
    (refused_slice n slice s (whole_slice s.kept slice) cause once accepted h)
refused n (Refused other) s cause once accepted h = by_cause (cc h)
  where
    by_cause : UnitRefused other ≡ cause → Spends n s (done_to [] (left_by cause (Refused other) s))
    by_cause is =
        subst (λ (c : Cause). Spends n s (done_to [] (left_by c (Refused other) s))) is (stays n s)
refused n (SequenceSet format) s cause once accepted h = absurd (cc h)
refused n EndOfSequence s cause once accepted h = absurd (cc h)
refused n EndOfBitstream s cause once accepted h = absurd (cc h)
refused n Other s cause once accepted h = absurd (cc h)
