-- Before a picture begins, all that is asked and output is of earlier pictures.
use Rattle.std.proofs.Common.{◌≡◌, ℕ, ◌+◌, ◌≤◌, ◌<◌, Bool, true, false, not, cond, List, [], ◌∷◌}
use Rattle.std.proofs.Common.{◌++◌, map, refl, sym, ◌∙◌, ap, subst, arith, Option, Some, None}
use Rattle.std.proofs.Common.{is_some}
use Rattle.std.specs.Prelude.{nat_le, int_lt}
use Rattle.std.proofs.lemmas.Bool.Decides.{nat_tests}
use Rattle.hevc_walk.specs.Meanings.{Format, Slice, Meaning, SequenceSet, CodedSlice, EndOfSequence}
use Rattle.hevc_walk.specs.Meanings.{EndOfBitstream, Other, Refused}
use Rattle.hevc_walk.specs.DependentSlices.{whole_slice, kept_header}
use Rattle.hevc_walk.specs.Pictures.{Head, head}
use Rattle.hevc_walk.specs.Buffer.{Entry, Buffer, LongTerm, bumping, draining}
use Rattle.hevc_walk.specs.Buffer.{needs_additional_bumping, needs_bumping, is_needed, is_reference}
use Rattle.hevc_walk.specs.Buffer.{placed, in_output_order, has_number, left_of, after_output}
use Rattle.hevc_walk.specs.Buffer.{shortest_front, due_outputs, with_latency, entry_of, with_stored}
use Rattle.hevc_walk.specs.ReferenceSets.{RefPicSet, reference_set, unmarked, references_before}
use Rattle.hevc_walk.specs.ReferenceSets.{names, long_term_if, with_long_term, long_term_entry}
use Rattle.hevc_walk.specs.ReferenceSets.{all_members, marked_if, with_marks}
use Rattle.hevc_walk.specs.Walk.{Event, output_of, Part, ◌>>=◌, nothing, call, Store, output_by}
use Rattle.hevc_walk.specs.Walk.{finish, store_picture, is_accepted, open_sequence, change_format}
use Rattle.hevc_walk.specs.Walk.{is_decoded, needed_entries, make_room, start_decoding}
use Rattle.hevc_walk.specs.Walk.{begin_picture, slice_call, at_unit, SubmitPicture}
use Rattle.hevc_walk_units.specs.Units.{Current, NoPicture, SkippedPicture, OpenPicture, Standing}
use Rattle.hevc_walk_units.specs.Units.{open_head, current_of, context_behind, finish_current}
use Rattle.hevc_walk_units.specs.Units.{decode_current, decode_slice, first_slice, refusal_of_later}
use Rattle.hevc_walk_units.specs.Units.{later_slice, begins_picture, whole_part, sequence_part}
use Rattle.hevc_walk_units.specs.Units.{unit_part}
use Rattle.hevc_walk_agree.proofs.Joined.{decode-next}
use Rattle.hevc_walk_splice.proofs.Later.{for_event, events_for}

abbrev pub AllUnder : ℕ → List Entry → Type 0
AllUnder n [] = Unit {0}
AllUnder n (e ∷ es) = (e.number < n) × AllUnder n es

-- none of these events is for a picture from number n on
abbrev pub AllQuiet : ℕ → List Event → Type 0
AllQuiet n [] = Unit {0}
AllQuiet n (e ∷ es) = (for_event n e ≡ false) × AllQuiet n es

under-append : (n : ℕ) (xs ys : List Entry) → AllUnder n xs → AllUnder n ys → AllUnder n (xs ++ ys)
under-append n [] ys h g = g
under-append n (x ∷ xs) ys h g = (h.0, under-append n xs ys h.1 g)

pub quiet-append : (n : ℕ) (xs ys : List Event) → AllQuiet n xs → AllQuiet n ys → AllQuiet n (xs ++ ys)
quiet-append n [] ys h g = g
quiet-append n (x ∷ xs) ys h g = (h.0, quiet-append n xs ys h.1 g)

pub quiet-none : (n k : ℕ) (es : List Event) → AllQuiet n es → events_for n (at_unit k es) ≡ []
quiet-none n k [] h = refl
quiet-none n k (e ∷ es) h =
    ap (λ (b : Bool). cond b ((k, e) ∷ events_for n (at_unit k es)) (events_for n (at_unit k es))) h.0
    ∙ quiet-none n k es h.1

not_from : (n m : ℕ) → m < n → nat_le n m ≡ false
not_from n m h = grind (arith, nat_tests)

quiet-output : (n : ℕ) (es : List Entry) → AllUnder n es → AllQuiet n (map output_of es)
quiet-output n [] h = tt
quiet-output n (e ∷ es) h = (not_from n e.number h.0, quiet-output n es h.1)

under-cond : (n : ℕ) (b : Bool) (xs ys : List Entry) → AllUnder n xs → AllUnder n ys → AllUnder n (cond b xs ys)
under-cond n true xs ys h g = h
under-cond n false xs ys h g = g

under-placed : (n : ℕ) (e : Entry) (fs : List Entry) → e.number < n → AllUnder n fs → AllUnder n (placed e fs)
under-placed n e [] h g = (h, tt)
under-placed n e (f ∷ fs) h g =
    under-cond n (int_lt f.order_count e.order_count) (f ∷ placed e fs) (e ∷ f ∷ fs)
    (g.0, under-placed n e fs h g.1) (h, g)

under-order : (n : ℕ) (es : List Entry) → AllUnder n es → AllUnder n (in_output_order es)
under-order n [] h = tt
under-order n (e ∷ es) h =
    under-cond n e.needed_for_output (placed e (in_output_order es)) (in_output_order es)
    (under-placed n e (in_output_order es) h.0 (under-order n es h.1)) (under-order n es h.1)

under-front : (n : ℕ) (passes : List Entry → Bool) (es : List Entry) → AllUnder n es
    → AllUnder n (shortest_front passes es)
under-front n passes [] h = tt
under-front n passes (e ∷ es) h =
    under-cond n (passes []) [] (e ∷ shortest_front (λ front. passes (e ∷ front)) es) tt
    (h.0, under-front n (λ front. passes (e ∷ front)) es h.1)

under-due : (n : ℕ) (rule : Buffer → Bool) (es : List Entry) → AllUnder n es → AllUnder n (due_outputs rule es)
unfolding due_outputs
under-due n rule es h = under-front n (λ outputs. not (rule (after_output outputs es))) (in_output_order es)
    (under-order n es h)

under-left : (n : ℕ) (b : Bool) (e : Entry) → e.number < n → AllUnder n (left_of b e)
under-left n true e h = under-cond n (is_reference e.mark) (record e { needed_for_output = false } ∷ []) [] (h, tt) tt
under-left n false e h = (h, tt)

under-after : (n : ℕ) (outputs es : List Entry) → AllUnder n es → AllUnder n (after_output outputs es)
under-after n outputs [] h = tt
under-after n outputs (e ∷ es) h =
    under-append n (left_of (has_number e.number outputs) e) (after_output outputs es)
    (under-left n (has_number e.number outputs) e h.0) (under-after n outputs es h.1)

under-map : (n : ℕ) (f : Entry → Entry) → ((e : Entry) → (f e).number ≡ e.number) → (es : List Entry)
    → AllUnder n es → AllUnder n (map f es)
under-map n f same [] h = tt
under-map n f same (e ∷ es) h = (subst (λ (m : ℕ). m < n) (sym (same e)) h.0, under-map n f same es h.1)

under-needed : (n : ℕ) (es : List Entry) → AllUnder n es → AllUnder n (needed_entries es)
under-needed n [] h = tt
under-needed n (e ∷ es) h =
    under-cond n (is_needed e) (e ∷ needed_entries es) (needed_entries es) (h.0, under-needed n es h.1)
    (under-needed n es h.1)

under-stored : (n : ℕ) (q : Head) (es : List Entry) → q.number < n → AllUnder n es → AllUnder n (with_stored q es)
unfolding with_stored
under-stored n q es h g =
    under-append n (map with_latency es) (entry_of q ∷ []) (under-map n with_latency (λ e. refl) es g) (h, tt)

under-references : (n : ℕ) (p : Head) (es : List Entry) → AllUnder n es → AllUnder n (references_before p es)
under-references n p es h =
    under-cond n p.starts_sequence (map unmarked es) es (under-map n unmarked (λ e. refl) es h) h

long-number : (ms : List (Option ℕ)) (e : Entry) → (long_term_if ms e).number ≡ e.number
long-number ms e = by_test (names e.number ms)
  where
    by_test : (b : Bool) → (cond b (record e { mark = LongTerm }) e).number ≡ e.number
    by_test true = refl
    by_test false = refl

marked-number : (ms : List (Option ℕ)) (e : Entry) → (marked_if ms e).number ≡ e.number
marked-number ms e = by_test (names e.number ms)
  where
    by_test : (b : Bool) → (cond b e (unmarked e)).number ≡ e.number
    by_test true = refl
    by_test false = refl

pub under-marks : (n : ℕ) (p : Head) (first : Slice) (es : List Entry) → AllUnder n es
    → AllUnder n (with_marks p first es)
unfolding with_marks
under-marks n p first es h =
    let before = references_before p es in
    let members = map (long_term_entry p first before) first.long_term_pics in
    under-map n (marked_if (all_members (reference_set p first es)))
    (marked-number (all_members (reference_set p first es))) (with_long_term p first before)
    (under-map n (long_term_if members) (long-number members) before (under-references n p es h))

-- the parts of the walk
pub record PartUnder (n : ℕ) (p : Part Store) : Type 0 where
  pub quiet : AllQuiet n p.events
  pub under : AllUnder n p.next.buffer

nothing-under : (n : ℕ) (s : Store) → AllUnder n s.buffer → PartUnder n (nothing s)
nothing-under n s h = record { quiet = tt; under = h }

then-under : (n : ℕ) (p : Part Store) (f : Store → Part Store) → PartUnder n p
    → ((s : Store) → AllUnder n s.buffer → PartUnder n (f s)) → PartUnder n (p >>= f)
then-under n p f h g = record {
  quiet = quiet-append n p.events (f p.next).events h.quiet (g p.next h.under).quiet;
  under = (g p.next h.under).under;
}

bump-under : (n : ℕ) (rule : Buffer → Bool) (s : Store) → AllUnder n s.buffer → PartUnder n (output_by (bumping rule) s)
bump-under n rule s h = record {
  quiet = quiet-output n (due_outputs rule s.buffer) (under-due n rule s.buffer h);
  under = under-after n (due_outputs rule s.buffer) s.buffer h;
}

drain-under : (n : ℕ) (s : Store) → AllUnder n s.buffer → PartUnder n (output_by draining s)
drain-under n s h = record { quiet = quiet-output n (in_output_order s.buffer) (under-order n s.buffer h); under = tt }

cond-under : (n : ℕ) (b : Bool) (p q : Part Store) → PartUnder n p → PartUnder n q → PartUnder n (cond b p q)
cond-under n true p q h g = h
cond-under n false p q h g = g

abbrev pub HeadUnder : ℕ → Option Head → Type 0
HeadUnder n None = Unit {0}
HeadUnder n (Some q) = q.number < n

store-under : (n : ℕ) (q : Head) (s : Store) → q.number < n → AllUnder n s.buffer → PartUnder n (store_picture q s)
unfolding store_picture
store-under n q s h g =
    then-under n (call (SubmitPicture q.number) (record s { buffer = with_stored q s.buffer }))
    (output_by (bumping (needs_additional_bumping q.limits))) (record {
      quiet = (not_from n q.number h, tt);
      under = under-stored n q s.buffer h g;
    }) (bump-under n (needs_additional_bumping q.limits))

pub finish-under : (n : ℕ) (q : Option Head) (s : Store) → HeadUnder n q → AllUnder n s.buffer
    → PartUnder n (finish q s)
unfolding finish
finish-under n None s h g = nothing-under n s g
finish-under n (Some q) s h g = cond-under n q.skipped (nothing s) (store_picture q s) (nothing-under n s g)
    (store-under n q s h g)

pub change-under : (n : ℕ) (f : Format) (s : Store) → AllUnder n s.buffer → PartUnder n (change_format f s)
unfolding change_format
change-under n f s h =
    cond-under n (is_accepted f s.accepted) (nothing s) (output_by draining s >>= open_sequence f)
    (nothing-under n s h) (then-under n (output_by draining s) (open_sequence f) (drain-under n s h)
    (λ t g. record { quiet = (refl, tt); under = g }))

pub room-under : (n : ℕ) (p : Head) (s : Store) → AllUnder n s.buffer → PartUnder n (make_room p s)
unfolding make_room
room-under n p s h =
    cond-under n p.no_output_of_prior_pics (nothing (record s { buffer = [] })) _
    (nothing-under n (record s { buffer = [] }) tt)
    (cond-under n p.starts_sequence (output_by draining s) _ (drain-under n s h)
    (bump-under n (needs_bumping p.limits) (record s { buffer = needed_entries s.buffer }) (under-needed n s.buffer h)))

pub begin-under : (n : ℕ) (p : Head) (first : Slice) (s : Store) → p.number < n → AllUnder n s.buffer
    → PartUnder n (begin_picture p first s)
unfolding begin_picture start_decoding
begin-under n p first s h g =
    let marked = record s { buffer = with_marks p first s.buffer } in
    cond-under n (is_decoded p) (make_room p marked >>= start_decoding p (reference_set p first s.buffer)) (nothing s)
    (then-under n (make_room p marked) (start_decoding p (reference_set p first s.buffer))
    (room-under n p marked (under-marks n p first s.buffer g))
    (λ t b. record { quiet = (not_from n p.number h, (not_from n p.number h, tt)); under = b }))
    (nothing-under n s g)

-- the parts of units
abbrev pub CurrentUnder : ℕ → Current → Type 0
CurrentUnder n NoPicture = Unit {0}
CurrentUnder n SkippedPicture = Unit {0}
CurrentUnder n (OpenPicture p set) = p.number < n

pub record StandingUnder (n : ℕ) (s : Standing) : Type 0 where
  pub buffer : AllUnder n s.store.buffer
  pub current : CurrentUnder n s.current

pub record UnitUnder (n : ℕ) (p : Part Standing) : Type 0 where
  pub quiet : AllQuiet n p.events
  pub next : StandingUnder n p.next

pub open-under : (n : ℕ) (c : Current) → CurrentUnder n c → HeadUnder n (open_head c)
open-under n NoPicture h = tt
open-under n SkippedPicture h = tt
open-under n (OpenPicture p set) h = h

current-under : (n : ℕ) (p : Head) (set : RefPicSet) → p.number < n → CurrentUnder n (current_of p set)
current-under n p set h = by_test p.skipped
  where
    by_test : (b : Bool) → CurrentUnder n (cond b SkippedPicture (OpenPicture p set))
    by_test true = tt
    by_test false = h

idle-under : (n : ℕ) (s : Standing) → StandingUnder n s → UnitUnder n (nothing s)
idle-under n s h = record { quiet = tt; next = h }

decode-under : (n : ℕ) (c : Current) (slice : Slice) (s : Standing) → CurrentUnder n c → StandingUnder n s
    → UnitUnder n (decode_current c slice s)
decode-under n NoPicture slice s c h = idle-under n s h
decode-under n SkippedPicture slice s c h = idle-under n s h
decode-under n (OpenPicture p set) slice s c h = by_test (is_decoded p)
  where
    by_test : (b : Bool) → UnitUnder n (cond b (call (slice_call p set slice) s) (nothing s))
    by_test true = record { quiet = (not_from n p.number c, tt); next = h }
    by_test false = idle-under n s h

first-under : (n : ℕ) (slice : Slice) (s : Standing) → s.next.number < n → StandingUnder n s
    → UnitUnder n (first_slice slice s)
unfolding head
first-under n slice s less h =
    let f = finish (open_head s.current) s.store in
    let fu = finish-under n (open_head s.current) s.store (open-under n s.current h.current) h.buffer in
    let p = head (finish_current s).next.next slice in
    let c = change_format p.format f.next in
    let cu = change-under n p.format f.next fu.under in
    let b = begin_picture p slice c.next in
    let bu = begin-under n p slice c.next less cu.under in
    let set = reference_set p slice c.next.buffer in
    let du = decode-under n (current_of p set) slice (record {
      store = b.next;
      current = current_of p set;
      kept = s.kept;
      next = context_behind p (finish_current s).next.next;
    }) (current-under n p set less) (record { buffer = bu.under; current = current-under n p set less }) in
    record {
      quiet = quiet-append n f.events (c.events ++ b.events ++ _) fu.quiet
          (quiet-append n (c.events ++ b.events) _ (quiet-append n c.events b.events cu.quiet bu.quiet) du.quiet);
      next = du.next;
    }

-- how many pictures have begun
first-number : (slice : Slice) (s : Standing) → (first_slice slice s).next.next.number ≡ s.next.number + 1
unfolding head
first-number slice s = ap (λ (t : Standing). t.next.number) (decode-next _ slice _)

pub unit-grows : (u : Meaning) (s : Standing) → s.next.number ≤ (unit_part u s).next.next.number
unit-grows (SequenceSet format) s = by_accepted s.store.accepted
  where
    by_accepted : (a : Option Format) → s.next.number ≤ (sequence_part a format s).next.next.number
    by_accepted None = omega arith
    by_accepted (Some a) = omega arith
unit-grows (CodedSlice slice) s = by_whole (whole_slice s.kept slice)
  where
    t : Standing
    t = record s { kept = kept_header s.kept slice }

    later : (w : Slice) (r : Bool) → s.next.number ≤ (cond r (nothing t) (decode_slice w t)).next.next.number
    later w true = omega arith
    later w false = let h = ap (λ (x : Standing). x.next.number) (decode-next t.current w t) in omega (arith, h)

    by_begin : (w : Slice) (b : Bool) → s.next.number ≤ (cond b (first_slice w t) (later_slice w t)).next.next.number
    by_begin w true = let h = first-number w t in omega (arith, h)
    by_begin w false = later w (is_some (refusal_of_later t.current w t.store.accepted))

    by_whole : (w : Option Slice) → s.next.number ≤ (whole_part w t).next.next.number
    by_whole None = omega arith
    by_whole (Some w) = by_begin w (begins_picture t.current w)
unit-grows EndOfSequence s = omega arith
unit-grows EndOfBitstream s = omega arith
unit-grows Other s = omega arith
unit-grows (Refused cause) s = omega arith

pub unit-under : (n : ℕ) (u : Meaning) (s : Standing) → StandingUnder n s
    → (unit_part u s).next.next.number ≤ n → UnitUnder n (unit_part u s)
unit-under n (SequenceSet format) s h few = by_accepted s.store.accepted
  where
    by_accepted : (a : Option Format) → UnitUnder n (sequence_part a format s)
    by_accepted None = record { quiet = (refl, tt); next = record { buffer = h.buffer; current = h.current } }
    by_accepted (Some a) = idle-under n s h
unit-under n (CodedSlice slice) s h few = by_whole (whole_slice s.kept slice) few
  where
    t : Standing
    t = record s { kept = kept_header s.kept slice }

    g : StandingUnder n t
    g = record { buffer = h.buffer; current = h.current }

    later : (w : Slice) (r : Bool) → UnitUnder n (cond r (nothing t) (decode_slice w t))
    later w true = idle-under n t g
    later w false = decode-under n t.current w t h.current g

    by_begin : (w : Slice) (b : Bool) → (cond b (first_slice w t) (later_slice w t)).next.next.number ≤ n
        → UnitUnder n (cond b (first_slice w t) (later_slice w t))
    by_begin w true m = first-under n w t (let k = first-number w t in omega (arith, m, k)) g
    by_begin w false m = later w (is_some (refusal_of_later t.current w t.store.accepted))

    by_whole : (w : Option Slice) → (whole_part w t).next.next.number ≤ n → UnitUnder n (whole_part w t)
    by_whole None m = idle-under n t g
    by_whole (Some w) m = by_begin w (begins_picture t.current w) m
unit-under n EndOfSequence s h few = record { quiet = tt; next = record { buffer = h.buffer; current = h.current } }
unit-under n EndOfBitstream s h few = record { quiet = tt; next = record { buffer = h.buffer; current = h.current } }
unit-under n Other s h few = idle-under n s h
unit-under n (Refused cause) s h few = idle-under n s h
