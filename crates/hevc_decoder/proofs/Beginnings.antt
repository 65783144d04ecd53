-- A unit that begins a picture is the first of one.
use Rattle.std.proofs.Common.{◌≡◌, ◌⊎◌, inl, inr, ℕ, ◌+◌, List, [], ◌∷◌, ◌++◌, length, refl, sym}
use Rattle.std.proofs.Common.{◌∙◌, ap, subst, arith, zero-add, Option, Some, None, Bool, true}
use Rattle.std.proofs.Common.{false, if◌then◌else◌}
use Rattle.std.specs.Prelude.{Contains}
use Rattle.hevc_walk.specs.Meanings.{Format, Slice, Meaning, SequenceSet, CodedSlice, EndOfSequence}
use Rattle.hevc_walk.specs.Meanings.{EndOfBitstream, Other, Refused}
use Rattle.hevc_walk.specs.DependentSlices.{whole_slice}
use Rattle.hevc_walk.specs.Pictures.{Picture, Stream, new_picture, with_slice, with_whole}
use Rattle.hevc_walk.specs.Pictures.{with_sequence_end, with_bitstream_end, with_unit, nothing_yet}
use Rattle.hevc_walk.specs.Pictures.{stream_from, stream, pictures}
use Rattle.hevc_walk.specs.ReferenceSets.{RefPicSet}
use Rattle.hevc_walk.specs.Walk.{reference_set_of}
use Rattle.hevc_walk_units.specs.Units.{SkippedPicture, OpenPicture, begins_picture}
use Rattle.hevc_walk_agree.specs.Standings.{standing, current_by}
use Rattle.hevc_driver.specs.Moments.{begins_at, begins_by}
use Rattle.hevc_dpb.proofs.Members.{contains_first, contains_later}
use Rattle.hevc_decoder.specs.Headline.{BeginsPicture}

-- some picture of these begins at unit k
abbrev Begun : ℕ → List Picture → Type 0
Begun k [] = ⊥
Begun k (p ∷ ps) = (p.unit ≡ k) ⊎ Begun k ps

begun_in : (k : ℕ) (ps : List Picture) → Begun k ps → (p : Picture) × Contains ps p × (p.unit ≡ k)
begun_in k [] b = absurd b
begun_in k (p ∷ ps) (inl is) = (p, contains_first p ps, is)
begun_in k (p ∷ ps) (inr b) = let q = begun_in k ps b in (q.0, contains_later p q.0 ps q.1, q.2)

-- ---- it stays so

slice_keeps : (k j : ℕ) (w : Slice) (ps : List Picture) → Begun k ps → Begun k (with_slice j w ps)
slice_keeps k j w [] b = absurd b
slice_keeps k j w (p ∷ ps) b = by w.first_slice_segment_in_pic_flag b
  where
    by : (f : Bool) → Begun k (p ∷ ps)
        → Begun k (if f then new_picture j w (p ∷ ps) ∷ p ∷ ps else record p { slices = p.slices ++ (j, w) ∷ [] } ∷ ps)
    by true b = inr b
    by false b = b

whole_keeps : (k j : ℕ) (o : Option Slice) (ps : List Picture) → Begun k ps → Begun k (with_whole j o ps)
whole_keeps k j None ps b = b
whole_keeps k j (Some w) ps b = slice_keeps k j w ps b

sequence_keeps : (k : ℕ) (ps : List Picture) → Begun k ps → Begun k (with_sequence_end ps)
sequence_keeps k [] b = b
sequence_keeps k (p ∷ ps) b = b

bitstream_keeps : (k : ℕ) (ps : List Picture) → Begun k ps → Begun k (with_bitstream_end ps)
bitstream_keeps k [] b = b
bitstream_keeps k (p ∷ ps) b = b

unit_keeps : (k j : ℕ) (y : Meaning) (v : Stream) → Begun k v.pictures → Begun k (with_unit j y v).pictures
unit_keeps k j (SequenceSet f) v b = b
unit_keeps k j (CodedSlice w) v b = whole_keeps k j (whole_slice v.kept w) v.pictures b
unit_keeps k j EndOfSequence v b = sequence_keeps k v.pictures b
unit_keeps k j EndOfBitstream v b = bitstream_keeps k v.pictures b
unit_keeps k j Other v b = b
unit_keeps k j (Refused c) v b = b

units_keep : (k j : ℕ) (ys : List Meaning) (v : Stream) → Begun k v.pictures → Begun k (stream_from j v ys).pictures
units_keep k j [] v b = b
units_keep k j (y ∷ ys) v b = units_keep k (j + 1) ys (with_unit j y v) (unit_keeps k j y v b)

-- ---- it comes about

-- where a picture is current, its flag tells
begins_flag : (p : Picture) (w : Slice) (set : RefPicSet) (b : Bool)
    → begins_picture (if b then SkippedPicture else OpenPicture p.head set) w ≡ w.first_slice_segment_in_pic_flag
begins_flag p w set true = refl
begins_flag p w set false = refl

slice_begins : (k : ℕ) (w : Slice) (set : Option (ℕ × Format)) (ps : List Picture)
    → begins_picture (current_by set ps) w ≡ true → Begun k (with_slice k w ps)
slice_begins k w set [] e = inl refl
slice_begins k w set (p ∷ ps) e = by w.first_slice_segment_in_pic_flag refl
  where
    by : (f : Bool) → w.first_slice_segment_in_pic_flag ≡ f
        → Begun k (if f then new_picture k w (p ∷ ps) ∷ p ∷ ps else record p { slices = p.slices ++ (k, w) ∷ [] } ∷ ps)
    by true is = inl refl
    by false is = absurd (cc (sym is ∙ sym (begins_flag p w (reference_set_of set p ps) p.head.skipped) ∙ e))

whole_begins : (k : ℕ) (o : Option Slice) (v : Stream) → begins_by o (standing v) ≡ true
    → Begun k (with_whole k o v.pictures)
whole_begins k None v e = absurd (cc e)
whole_begins k (Some w) v e = slice_begins k w v.first_set v.pictures e

unit_begins : (k : ℕ) (y : Meaning) (v : Stream) → begins_at y (standing v) ≡ true → Begun k (with_unit k y v).pictures
unit_begins k (SequenceSet f) v e = absurd (cc e)
unit_begins k (CodedSlice w) v e = whole_begins k (whole_slice v.kept w) v e
unit_begins k EndOfSequence v e = absurd (cc e)
unit_begins k EndOfBitstream v e = absurd (cc e)
unit_begins k Other v e = absurd (cc e)
unit_begins k (Refused c) v e = absurd (cc e)

stream_behind : (j : ℕ) (v : Stream) (xs ys : List Meaning)
    → stream_from j v (xs ++ ys) ≡ stream_from (j + length xs) (stream_from j v xs) ys
stream_behind j v [] ys = ap (λ (n : ℕ). stream_from n v ys) (omega arith)
stream_behind j v (x ∷ xs) ys = stream_behind (j + 1) (with_unit j x v) xs ys
    ∙ ap (λ (n : ℕ). stream_from n (stream_from (j + 1) (with_unit j x v) xs) ys) (omega arith)

pub begins_picture_at : (ms : List Meaning) (y : Meaning) (ys : List Meaning)
    → begins_at y (standing (stream ms)) ≡ true → BeginsPicture (length ms) (ms ++ y ∷ ys)
begins_picture_at ms y ys e =
    let k = length ms in
    let here : Begun k (stream_from k (stream ms) (y ∷ ys)).pictures =
    units_keep k (k + 1) ys (with_unit k y (stream ms)) (unit_begins k y (stream ms) e) in
    let is : stream_from k (stream ms) (y ∷ ys) ≡ stream (ms ++ y ∷ ys) =
    ap (λ (n : ℕ). stream_from n (stream ms) (y ∷ ys)) (sym (zero-add k))
    ∙ sym (stream_behind 0 nothing_yet ms (y ∷ ys)) in
    let b = begun_in k (pictures (ms ++ y ∷ ys)) (subst (λ (v : Stream). Begun k v.pictures) is here) in
    record { picture = b.0; coded = b.1; first = b.2 }
