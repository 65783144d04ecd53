-- Numbers grow by one at a unit, at most.
use Rattle.std.proofs.Common.{◌≡◌, ◌+◌, ◌≤◌, refl, ap, arith, Option, Some, None, Bool, true, false, if◌then◌else◌}
use Rattle.hevc_walk.specs.Meanings.{Format, Slice, Meaning, SequenceSet, CodedSlice, EndOfSequence}
use Rattle.hevc_walk.specs.Meanings.{EndOfBitstream, Other, Refused}
use Rattle.hevc_walk.specs.DependentSlices.{whole_slice}
use Rattle.hevc_walk.specs.Pictures.{head}
use Rattle.hevc_walk.specs.Walk.{change_format}
use Rattle.hevc_walk_units.specs.Units.{Standing, on_store, finish_current, open_picture}
use Rattle.hevc_walk_units.specs.Units.{begin_slice, first_slice, later_slice, slice_part}
use Rattle.hevc_walk_units.specs.Units.{whole_part, begins_picture, sequence_part, unit_part}
use Rattle.hevc_driver.specs.Moments.{with_kept, opening, opening_by}
use Rattle.hevc_driver.proofs.PictureBegins.{head_number}
use Rattle.hevc_driver.proofs.Taking.{later_next, decode_next}

begun_number : (w : Slice) (s : Standing) → (begin_slice w s).next.next.number ≤ s.next.number + 1
begun_number w s =
    let same = ap
    (λ (v : Standing). v.next.number)
    (decode_next w (open_picture (head s.next w) w (on_store (change_format (head s.next w).format) s).next).next) in
    let one = head_number s.next w (head s.next w) refl in
    omega (arith, same, one)

slice_number : (w : Slice) (s : Standing) → (slice_part w s).next.next.number ≤ s.next.number + 1
slice_number w s = by (begins_picture s.current w)
  where
    by : (b : Bool) → (if b then first_slice w s else later_slice w s).next.next.number ≤ s.next.number + 1
    by true = begun_number w (finish_current s).next
    by false = let same = ap (λ (v : Standing). v.next.number) (later_next w s) in omega (arith, same)

whole_number : (o : Option Slice) (s : Standing) → (whole_part o s).next.next.number ≤ s.next.number + 1
whole_number None s = omega arith
whole_number (Some w) s = slice_number w s

pub number_grows : (x : Meaning) (s : Standing) → (unit_part x s).next.next.number ≤ s.next.number + 1
number_grows (SequenceSet f) s = by s.store.accepted
  where
    by : (a : Option Format) → (sequence_part a f s).next.next.number ≤ s.next.number + 1
    by None = omega arith
    by (Some g) = omega arith
number_grows (CodedSlice w) s = whole_number (whole_slice s.kept w) (with_kept w s)
number_grows EndOfSequence s = omega arith
number_grows EndOfBitstream s = omega arith
number_grows Other s = omega arith
number_grows (Refused c) s = omega arith

-- a negotiation takes none
opening_by_number : (o : Option Slice) (s : Standing) → (opening_by o s).next.next.number ≡ s.next.number
opening_by_number None s = refl
opening_by_number (Some w) s = refl

pub opening_number : (x : Meaning) (s : Standing) → (opening x s).next.next.number ≡ s.next.number
opening_number (SequenceSet f) s = refl
opening_number (CodedSlice w) s = opening_by_number (whole_slice s.kept w) (with_kept w s)
opening_number EndOfSequence s = refl
opening_number EndOfBitstream s = refl
opening_number Other s = refl
opening_number (Refused c) s = refl
