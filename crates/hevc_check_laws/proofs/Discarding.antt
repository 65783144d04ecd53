-- Only a picture that begins a sequence, and isn't the first of all, discards.
use Rattle.std.proofs.Common.{◌≡◌, ℕ, ◌+◌, Bool, true, false, not, cond, ◌&&◌, ◌||◌, List, [], ◌∷◌}
use Rattle.std.proofs.Common.{◌++◌, refl, Option, Some, None}
use Rattle.hevc_spec.specs.UnitTypes.{is_cra}
use Rattle.hevc_walk.specs.Meanings.{Slice, Meaning, CodedSlice, Refused, SequenceSet}
use Rattle.hevc_walk.specs.Meanings.{EndOfSequence, EndOfBitstream, Other}
use Rattle.hevc_walk.specs.DependentSlices.{whole_slice}
use Rattle.hevc_walk.specs.Pictures.{Context, Picture, Stream, context, head, begins_sequence}
use Rattle.hevc_walk.specs.Pictures.{new_picture, with_unit, with_slice, with_whole}
use Rattle.hevc_walk.specs.Pictures.{with_sequence_end, with_bitstream_end, stream_from}
use Rattle.hevc_check_laws.proofs.Places.{Sound}

abbrev pub Discarding : Picture → List Picture → Type 0
Discarding p before = p.starts_sequence ≡ false → p.no_output_of_prior_pics ≡ false

head-discards : (c : Context) (s : Slice) → (head c s).starts_sequence ≡ false
    → (head c s).no_output_of_prior_pics ≡ false
unfolding head
head-discards c s e = by_starts (begins_sequence c s) e
  where
    by_starts : (b : Bool) → b ≡ false
        → b && not c.first_in_bitstream && (is_cra s.nal_unit_type || s.no_output_of_prior_pics_flag) ≡ false
    by_starts true e = absurd (cc e)
    by_starts false e = refl

slice-discards : (k : ℕ) (s : Slice) (ps : List Picture) → Sound Discarding ps → Sound Discarding (with_slice k s ps)
slice-discards k s [] h = (head-discards (context []) s, tt)
slice-discards k s (p ∷ before) h = by_test s.first_slice_segment_in_pic_flag
  where
    by_test : (b : Bool)
        → Sound Discarding
        (cond b (new_picture k s (p ∷ before) ∷ p ∷ before)
        (record p { slices = p.slices ++ (k, s) ∷ [] } ∷ before))
    by_test true = (head-discards (context (p ∷ before)) s, h)
    by_test false = h

whole-discards : (k : ℕ) (s : Option Slice) (ps : List Picture) → Sound Discarding ps
    → Sound Discarding (with_whole k s ps)
whole-discards k None ps h = h
whole-discards k (Some s) ps h = slice-discards k s ps h

sequence_end-discards : (ps : List Picture) → Sound Discarding ps → Sound Discarding (with_sequence_end ps)
sequence_end-discards [] h = h
sequence_end-discards (p ∷ before) h = h

bitstream_end-discards : (ps : List Picture) → Sound Discarding ps → Sound Discarding (with_bitstream_end ps)
bitstream_end-discards [] h = h
bitstream_end-discards (p ∷ before) h = h

unit-discards : (k : ℕ) (u : Meaning) (v : Stream) → Sound Discarding v.pictures
    → Sound Discarding (with_unit k u v).pictures
unit-discards k (SequenceSet format) v h = h
unit-discards k (CodedSlice s) v h = whole-discards k (whole_slice v.kept s) v.pictures h
unit-discards k EndOfSequence v h = sequence_end-discards v.pictures h
unit-discards k EndOfBitstream v h = bitstream_end-discards v.pictures h
unit-discards k Other v h = h
unit-discards k (Refused cause) v h = h

pub stream-discards : (k : ℕ) (v : Stream) (us : List Meaning) → Sound Discarding v.pictures
    → Sound Discarding (stream_from k v us).pictures
stream-discards k v [] h = h
stream-discards k v (u ∷ us) h = stream-discards (k + 1) (with_unit k u v) us (unit-discards k u v h)
