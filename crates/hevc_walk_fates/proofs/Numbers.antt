-- The numbers of pictures are the places where they begin.
use Rattle.std.proofs.Common.{◌≡◌, ℕ, ◌+◌, Bool, true, false, cond, List, [], ◌∷◌, ◌++◌, length}
use Rattle.std.proofs.Common.{refl, ◌∙◌, ap, Option, Some, None, add-one}
use Rattle.hevc_walk.specs.Meanings.{Slice, Meaning, CodedSlice, Refused, SequenceSet}
use Rattle.hevc_walk.specs.Meanings.{EndOfSequence, EndOfBitstream, Other}
use Rattle.hevc_walk.specs.DependentSlices.{whole_slice}
use Rattle.hevc_walk.specs.Pictures.{Picture, Stream, Context, context, head, new_picture}
use Rattle.hevc_walk.specs.Pictures.{with_unit, with_slice, with_whole, with_sequence_end}
use Rattle.hevc_walk.specs.Pictures.{with_bitstream_end, stream_from}
use Rattle.hevc_walk.specs.Refusals.{Cause, UnitRefused, NoIndependentSlice, ChangedMidPicture}
use Rattle.hevc_walk.specs.Refusals.{PocOutOfRange, DpbFull, refusal, first_refusal, stop_from}
use Rattle.hevc_walk.specs.Refusals.{covered_at, covered_from}

head-number : (c : Context) (s : Slice) → (head c s).number ≡ c.number
unfolding head
head-number c s = refl

abbrev pub Numbered : List Picture → Type 0
Numbered [] = Unit {0}
Numbered (p ∷ before) = (p.number ≡ (context before).number) × Numbered before

slice-numbered : (k : ℕ) (s : Slice) (ps : List Picture) → Numbered ps → Numbered (with_slice k s ps)
slice-numbered k s [] h = (head-number (context []) s, tt)
slice-numbered k s (p ∷ before) h = by_test s.first_slice_segment_in_pic_flag
  where
    by_test : (b : Bool)
        → Numbered (cond b (new_picture k s (p ∷ before) ∷ p ∷ before)
        (record p { slices = p.slices ++ (k, s) ∷ [] } ∷ before))
    by_test true = (head-number (context (p ∷ before)) s, h)
    by_test false = h

whole-numbered : (k : ℕ) (s : Option Slice) (ps : List Picture) → Numbered ps → Numbered (with_whole k s ps)
whole-numbered k None ps h = h
whole-numbered k (Some s) ps h = slice-numbered k s ps h

sequence_end-numbered : (ps : List Picture) → Numbered ps → Numbered (with_sequence_end ps)
sequence_end-numbered [] h = h
sequence_end-numbered (p ∷ before) h = h

bitstream_end-numbered : (ps : List Picture) → Numbered ps → Numbered (with_bitstream_end ps)
bitstream_end-numbered [] h = h
bitstream_end-numbered (p ∷ before) h = h

pub unit-numbered : (k : ℕ) (u : Meaning) (v : Stream) → Numbered v.pictures → Numbered (with_unit k u v).pictures
unit-numbered k (SequenceSet format) v h = h
unit-numbered k (CodedSlice s) v h = whole-numbered k (whole_slice v.kept s) v.pictures h
unit-numbered k EndOfSequence v h = sequence_end-numbered v.pictures h
unit-numbered k EndOfBitstream v h = bitstream_end-numbered v.pictures h
unit-numbered k Other v h = h
unit-numbered k (Refused cause) v h = h

pub numbered-length : (ps : List Picture) → Numbered ps → (context ps).number ≡ length ps
numbered-length [] h = refl
numbered-length (p ∷ before) h = ap (λ (n : ℕ). n + 1) (h.0 ∙ numbered-length before h.1) ∙ add-one (length before)

pub covered-numbered : (k : ℕ) (v : Stream) (us : List Meaning) → Numbered v.pictures
    → Numbered (covered_from k v us).pictures
covered-numbered k v [] h = h
covered-numbered k v (u ∷ us) h =
    by_refusal (refusal v u) (unit-numbered k u v h)
    (covered-numbered (k + 1) (with_unit k u v) us (unit-numbered k u v h))
  where
    by_refusal : (r : Option Cause) → Numbered (with_unit k u v).pictures
        → Numbered (covered_from (k + 1) (with_unit k u v) us).pictures
        → Numbered (covered_at r v (with_unit k u v) (covered_from (k + 1) (with_unit k u v) us)).pictures
    by_refusal None at later = later
    by_refusal (Some PocOutOfRange) at later = at
    by_refusal (Some (UnitRefused cause)) at later = h
    by_refusal (Some NoIndependentSlice) at later = h
    by_refusal (Some (ChangedMidPicture a b)) at later = h
    by_refusal (Some DpbFull) at later = h

pub stream-numbered : (k : ℕ) (v : Stream) (us : List Meaning) → Numbered v.pictures
    → Numbered (stream_from k v us).pictures
stream-numbered k v [] h = h
stream-numbered k v (u ∷ us) h = stream-numbered (k + 1) (with_unit k u v) us (unit-numbered k u v h)

-- without a stop the walk covers all
pub covered_all : (k : ℕ) (v : Stream) (us : List Meaning) → stop_from k v us ≡ None
    → covered_from k v us ≡ stream_from k v us
covered_all k v [] h = refl
covered_all k v (u ∷ us) h = by_refusal (covered_all (k + 1) (with_unit k u v) us) (refusal v u) h
  where
    by_refusal : (stop_from (k + 1) (with_unit k u v) us ≡ None
        → covered_from (k + 1) (with_unit k u v) us ≡ stream_from (k + 1) (with_unit k u v) us)
        → (r : Option Cause) → first_refusal k r (stop_from (k + 1) (with_unit k u v) us) ≡ None
        → covered_at r v (with_unit k u v) (covered_from (k + 1) (with_unit k u v) us) ≡ stream_from (k + 1)
        (with_unit k u v) us
    by_refusal further None h = further h
    by_refusal further (Some cause) h = absurd (cc h)
