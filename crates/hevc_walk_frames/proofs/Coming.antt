-- A picture that has ended is never output.
use Rattle.std.proofs.Common.{◌≡◌, ℕ, ◌+◌, ◌<◌, Bool, true, false, not, ◌&&◌, ◌||◌, cond, eqb, List, []}
use Rattle.std.proofs.Common.{◌∷◌, refl, ◌∙◌, ap, arith, Option, Some, None}
use Rattle.std.specs.Prelude.{is_some}
use Rattle.std.proofs.lemmas.Bool.Decides.{nat_tests}
use Rattle.hevc_walk.specs.Meanings.{Format, Slice, Meaning, CodedSlice, Refused, SequenceSet}
use Rattle.hevc_walk.specs.Meanings.{EndOfSequence, EndOfBitstream, Other}
use Rattle.hevc_walk.specs.DependentSlices.{whole_slice, kept_header}
use Rattle.hevc_walk.specs.Pictures.{Head, head}
use Rattle.hevc_walk.specs.Buffer.{Buffer}
use Rattle.hevc_walk.specs.ReferenceSets.{RefPicSet, reference_set}
use Rattle.hevc_walk.specs.Walk.{Event, Called, Output, Part, ◌>>=◌, nothing, call, finish}
use Rattle.hevc_walk.specs.Walk.{change_format, is_decoded, slice_call}
use Rattle.hevc_walk.specs.Walk.{output_by}
use Rattle.hevc_walk.specs.Buffer.{draining}
use Rattle.hevc_walk.specs.Fates.{one, times}
use Rattle.hevc_walk_fates.proofs.Counts.{given, given-append, waits_as, to_come, output_drain}
use Rattle.hevc_walk_fates.proofs.Counts.{finish-balanced, change-balanced, begin-balanced}
use Rattle.hevc_walk_units.specs.Units.{Current, NoPicture, SkippedPicture, OpenPicture, Standing, on_store}
use Rattle.hevc_walk_units.specs.Units.{open_head, current_of, finish_current, open_picture}
use Rattle.hevc_walk_units.specs.Units.{decode_current, decode_slice, begin_slice, first_slice}
use Rattle.hevc_walk_units.specs.Units.{refusal_of_later, later_slice, begins_picture, slice_part, whole_part}
use Rattle.hevc_walk_units.specs.Units.{sequence_part, unit_part, closing_part}
use Rattle.hevc_walk_frames.specs.Coming.{is_open, is_waiting, is_coming, output_numbers_in}
use Rattle.hevc_walk_frames.specs.Coming.{NeverComes}
use Rattle.hevc_walk_frames.proofs.Counting.{none_among}

-- a picture that isn't needed for output waits in no place, and the other way round
pub waits-not : (n : ℕ) (es : Buffer) → is_waiting n es ≡ false → waits_as n es ≡ 0
waits-not n [] h = refl
waits-not n (e ∷ es) h =
    by_tests (eqb e.number n) e.needed_for_output h (waits-not n es)
  where
    by_tests : (a w : Bool) → (a && w) || is_waiting n es ≡ false
        → (is_waiting n es ≡ false → waits_as n es ≡ 0) → one (w && a) + waits_as n es ≡ 0
    by_tests true true h further = absurd (cc h)
    by_tests true false h further = let k = further h in omega (arith, k)
    by_tests false true h further = let k = further h in omega (arith, k)
    by_tests false false h further = let k = further h in omega (arith, k)

pub not-waiting : (n : ℕ) (es : Buffer) → waits_as n es ≡ 0 → is_waiting n es ≡ false
not-waiting n [] h = refl
not-waiting n (e ∷ es) h = by_tests (eqb e.number n) e.needed_for_output h (not-waiting n es)
  where
    by_tests : (a w : Bool) → one (w && a) + waits_as n es ≡ 0
        → (waits_as n es ≡ 0 → is_waiting n es ≡ false) → (a && w) || is_waiting n es ≡ false
    by_tests true true h further = absurd (omega (arith, h))
    by_tests true false h further = further (omega (arith, h))
    by_tests false true h further = further (omega (arith, h))
    by_tests false false h further = further (omega (arith, h))

given-numbers : (n : ℕ) (es : List Event) → times n (output_numbers_in es) ≡ given n es
given-numbers n [] = refl
given-numbers n (Called call ∷ es) = given-numbers n es
given-numbers n (Output number count ∷ es) = ap (λ (m : ℕ). one (eqb number n) + m) (given-numbers n es)

-- A picture isn't open, and isn't needed for output.
record IsOver (n : ℕ) (s : Standing) : Type 0 where
  closed : is_open n (open_head s.current) ≡ false
  stored : waits_as n s.store.buffer ≡ 0

record StaysOver (n : ℕ) (part : Part Standing) : Type 0 where
  no_output : given n part.events ≡ 0
  over : IsOver n part.next

or_parts : (a b : Bool) → a || b ≡ false → (a ≡ false) × (b ≡ false)
or_parts true b h = absurd (cc h)
or_parts false b h = (refl, h)

is_over : (n : ℕ) (s : Standing) → is_coming s n ≡ false → IsOver n s
is_over n s h =
    let two = or_parts (is_open n (open_head s.current)) (is_waiting n s.store.buffer) h in
    record { closed = two.0; stored = waits-not n s.store.buffer two.1 }

never : (n : ℕ) (part : Part Standing) → StaysOver n part → NeverComes n part
never n part h = record {
  no_output = none_among n (output_numbers_in part.events) (given-numbers n part.events ∙ h.no_output);
  no_later =
      ap (λ (b : Bool). b || is_waiting n part.next.store.buffer) h.over.closed
      ∙ not-waiting n part.next.store.buffer h.over.stored;
}

-- one part after another
both : (n : ℕ) (part : Part Standing) (f : Standing → Part Standing) → StaysOver n part
    → StaysOver n (f part.next) → StaysOver n (part >>= f)
both n part f h k = record {
  no_output = let g = given-append n part.events (f part.next).events in
      let a = h.no_output in let b = k.no_output in omega (arith, g, a, b);
  over = k.over;
}

none_to_come : (n : ℕ) (q : Option Head) → is_open n q ≡ false → to_come n q ≡ 0
none_to_come n None h = refl
none_to_come n (Some q) h = by_tests q.skipped q.pic_output_flag (eqb q.number n) h
  where
    by_tests : (s o b : Bool) → b ≡ false → one (not s && o && b) ≡ 0
    by_tests true o b h = refl
    by_tests false true b h = ap one h
    by_tests false false b h = refl

finished : (n : ℕ) (s : Standing) → IsOver n s → StaysOver n (finish_current s)
finished n s h =
    let q = open_head s.current in
    let a = h.stored in
    let b = none_to_come n q h.closed in
    let e = finish-balanced n q s.store (omega (arith, a, b)) in
    record {
      no_output = omega (arith, a, b, e);
      over = record { closed = refl; stored = omega (arith, a, b, e) };
    }

changed : (n : ℕ) (f : Format) (s : Standing) → IsOver n s → StaysOver n (on_store (change_format f) s)
changed n f s h =
    let a = h.stored in
    let e = change-balanced n f s.store in
    record {
      no_output = omega (arith, a, e);
      over = record { closed = h.closed; stored = omega (arith, a, e) };
    }

drained : (n : ℕ) (s : Standing) → IsOver n s → StaysOver n (on_store (output_by draining) s)
drained n s h =
    let a = h.stored in
    let e = output_drain n s.store in
    record {
      no_output = omega (arith, a, e);
      over = record { closed = h.closed; stored = omega (arith, a, e) };
    }

other_open : (n : ℕ) (p : Head) (set : RefPicSet) → eqb p.number n ≡ false
    → is_open n (open_head (current_of p set)) ≡ false
other_open n p set other = by_test p.skipped
  where
    by_test : (b : Bool) → is_open n (open_head (cond b SkippedPicture (OpenPicture p set))) ≡ false
    by_test true = refl
    by_test false = other

opened : (n : ℕ) (p : Head) (first : Slice) (s : Standing) → eqb p.number n ≡ false → IsOver n s
    → StaysOver n (open_picture p first s)
opened n p first s other h =
    let a = h.stored in
    let e = begin-balanced n p first s.store (omega (arith, a)) in
    record {
      no_output = omega (arith, a, e);
      over = record {
        closed = other_open n p (reference_set p first s.store.buffer) other;
        stored = omega (arith, a, e);
      };
    }

decoded : (n : ℕ) (slice : Slice) (s : Standing) → IsOver n s → StaysOver n (decode_slice slice s)
decoded n slice s h = by_current s.current
  where
    by_test : (b : Bool) (p : Head) (set : RefPicSet)
        → StaysOver n (cond b (call (slice_call p set slice) s) (nothing s))
    by_test true p set = record { no_output = refl; over = h }
    by_test false p set = record { no_output = refl; over = h }

    by_current : (c : Current) → StaysOver n (decode_current c slice s)
    by_current NoPicture = record { no_output = refl; over = h }
    by_current SkippedPicture = record { no_output = refl; over = h }
    by_current (OpenPicture p set) = by_test (is_decoded p) p set

other_number : (m n : ℕ) → n < m → eqb m n ≡ false
other_number m n h = grind (arith, nat_tests)

begun : (n : ℕ) (slice : Slice) (s : Standing) → n < s.next.number → IsOver n s
    → StaysOver n (begin_slice slice s)
unfolding head
begun n slice s below h =
    let p = head s.next slice in
    let c = changed n p.format s h in
    let t = (on_store (change_format p.format) s).next in
    let o = opened n p slice t (other_number s.next.number n below) c.over in
    both n (on_store (change_format p.format) s >>= open_picture p slice) (decode_slice slice)
    (both n (on_store (change_format p.format) s) (open_picture p slice) c o)
    (decoded n slice (open_picture p slice t).next o.over)

first : (n : ℕ) (slice : Slice) (s : Standing) → n < s.next.number → IsOver n s → StaysOver n (first_slice slice s)
first n slice s below h =
    let f = finished n s h in
    both n (finish_current s) (begin_slice slice) f (begun n slice (finish_current s).next below f.over)

later : (n : ℕ) (slice : Slice) (s : Standing) → IsOver n s → StaysOver n (later_slice slice s)
later n slice s h = by_test (is_some (refusal_of_later s.current slice s.store.accepted))
  where
    by_test : (b : Bool) → StaysOver n (cond b (nothing s) (decode_slice slice s))
    by_test true = record { no_output = refl; over = h }
    by_test false = decoded n slice s h

sliced : (n : ℕ) (slice : Slice) (s : Standing) → n < s.next.number → IsOver n s → StaysOver n (slice_part slice s)
sliced n slice s below h = by_test (begins_picture s.current slice)
  where
    by_test : (b : Bool) → StaysOver n (cond b (first_slice slice s) (later_slice slice s))
    by_test true = first n slice s below h
    by_test false = later n slice s h

whole : (n : ℕ) (slice : Option Slice) (s : Standing) → n < s.next.number → IsOver n s
    → StaysOver n (whole_part slice s)
whole n None s below h = record { no_output = refl; over = h }
whole n (Some slice) s below h = sliced n slice s below h

sequence : (n : ℕ) (accepted : Option Format) (format : Format) (s : Standing) → IsOver n s
    → StaysOver n (sequence_part accepted format s)
sequence n None format s h = record {
  no_output = refl;
  over = record { closed = h.closed; stored = h.stored };
}
sequence n (Some accepted) format s h = record { no_output = refl; over = h }

unit_over : (n : ℕ) (u : Meaning) (s : Standing) → n < s.next.number → IsOver n s → StaysOver n (unit_part u s)
unit_over n (SequenceSet format) s below h = sequence n s.store.accepted format s h
unit_over n (CodedSlice slice) s below h =
    whole n (whole_slice s.kept slice) (record s { kept = kept_header s.kept slice }) below
    (record { closed = h.closed; stored = h.stored })
unit_over n EndOfSequence s below h = record {
  no_output = refl;
  over = record { closed = h.closed; stored = h.stored };
}
unit_over n EndOfBitstream s below h = record {
  no_output = refl;
  over = record { closed = h.closed; stored = h.stored };
}
unit_over n Other s below h = record { no_output = refl; over = h }
unit_over n (Refused cause) s below h = record { no_output = refl; over = h }

pub ended_by_unit : (u : Meaning) (s : Standing) (n : ℕ) → n < s.next.number → is_coming s n ≡ false
    → NeverComes n (unit_part u s)
ended_by_unit u s n below h = never n (unit_part u s) (unit_over n u s below (is_over n s h))

-- at the end the open picture is over, and what waits is output
pub ended_at_end : (s : Standing) (n : ℕ) → n < s.next.number → is_coming s n ≡ false
    → NeverComes n (closing_part s)
ended_at_end s n below h =
    let o = is_over n s h in
    let q = open_head s.current in
    let a = o.stored in
    let b = none_to_come n q o.closed in
    let e = finish-balanced n q s.store (omega (arith, a, b)) in
    let d = output_drain n (finish q s.store).next in
    let g = given-append n (finish q s.store).events (output_by draining (finish q s.store).next).events in
    never n (closing_part s) (record {
      no_output = omega (arith, a, b, e, d, g);
      over = record { closed = o.closed; stored = omega (arith, a, b, e, d) };
    })
