-- The points of some pictures, and of one more unit.
use Rattle.std.proofs.Common.{◌≡◌, ℕ, ◌+◌, Bool, true, false, cond, not, ◌&&◌, ◌||◌, List, [], ◌∷◌}
use Rattle.std.proofs.Common.{◌++◌, map, filter, reverse, refl, sym, ap, ◌∙◌, arith, append-nil}
use Rattle.std.proofs.Common.{Option, Some, None}
use Rattle.std.specs.Prelude.{◌==◌, option_to_list}
use Rattle.std.proofs.lemmas.Bool.Decides.{nat_tests}
use Rattle.std.proofs.lemmas.Grind.{reverse_onto}
use Rattle.std.proofs.lemmas.List.{map-append}
use Rattle.std.proofs.lemmas.List.Elements.{filter-append}
use Rattle.hevc_spec.specs.UnitTypes.{is_idr, is_bla, is_radl, is_rasl, is_slnr}
use Rattle.hevc_walk.specs.DependentSlices.{whole_slice}
use Rattle.hevc_walk.specs.Meanings.{Format, Slice, Meaning, SequenceSet, CodedSlice, EndOfSequence}
use Rattle.hevc_walk.specs.Meanings.{EndOfBitstream, Other, Refused}
use Rattle.hevc_walk.specs.ReferenceSets.{RefPicSet}
use Rattle.hevc_walk.specs.Walk.{reference_set_of}
use Rattle.hevc_walk_units.specs.Units.{SkippedPicture, OpenPicture, open_head}
use Rattle.hevc_walk.specs.Pictures.{Head, Picture, Stream, context, head, new_picture}
use Rattle.hevc_walk.specs.Pictures.{with_bitstream_end, with_sequence_end, with_slice, with_unit}
use Rattle.hevc_walk.specs.Pictures.{with_whole}
use Rattle.hevc_walk_agree.specs.Standings.{current_by, next_context, standing}
use Rattle.hevc_index_laws.specs.Points.{is_point, PlainPoint}
use Rattle.hevc_index.specs.Finding.{point_begun, point_by}

-- what is told of a picture, where the units are at these places
abbrev pub point_in : (ℕ → ℕ) → Picture → PlainPoint
point_in offset_at p = record {
  number = p.number;
  unit = p.unit;
  offset = offset_at p.unit;
  nal_unit_type = p.nal_unit_type;
  order_count = p.order_count;
}

-- of the points among some pictures, latest first
abbrev pub told_of : (ℕ → ℕ) → List Picture → List PlainPoint
told_of offset_at ps = map (point_in offset_at) (filter is_point (reverse ps))

module _ (offset_at : ℕ → ℕ) where
  abbrev told : List Picture → List PlainPoint
  told ps = told_of offset_at ps

  abbrev one : Picture → List PlainPoint
  one p = cond (is_point p) (point_in offset_at p ∷ []) []

  told_more : (p : Picture) (ps : List Picture) → told (p ∷ ps) ≡ told ps ++ one p
  told_more p ps =
      ap (λ (l : List Picture). map (point_in offset_at) (filter is_point l)) (reverse_onto ps p [])
      ∙ ap (map (point_in offset_at)) (filter-append is_point (reverse ps) (p ∷ []))
      ∙ map-append (point_in offset_at) (filter is_point (reverse ps)) (filter is_point (p ∷ []))
      ∙ ap (λ (l : List PlainPoint). told ps ++ l) (by_test (is_point p))
    where
      by_test : (b : Bool) → map (point_in offset_at) (cond b (p ∷ []) []) ≡ cond b (point_in offset_at p ∷ []) []
      by_test true = refl
      by_test false = refl

  -- the latest picture is told as another
  told_same : (p q : Picture) (ps : List Picture) → one p ≡ one q → told (p ∷ ps) ≡ told (q ∷ ps)
  told_same p q ps e = told_more p ps ∙ ap (λ (l : List PlainPoint). told ps ++ l) e ∙ sym (told_more q ps)

  -- ---- one more unit

  -- a unit begins no picture, or this one
  data Step (k : ℕ) (old : List Picture) : List Picture → Type 0 where
    same : {new : List Picture} → told new ≡ told old → (next_context new).number ≡ (next_context old).number
        → Step k old new
    begun : (f : Slice) → Step k old (new_picture k f old ∷ old)

  slice_step : (k : ℕ) (f : Slice) (old : List Picture) → Step k old (with_slice k f old)
  slice_step k f [] = begun f
  slice_step k f (p ∷ before) = by_test f.first_slice_segment_in_pic_flag
    where
      more : Picture
      more = record p { slices = p.slices ++ (k, f) ∷ [] }

      by_test : (b : Bool) → Step k (p ∷ before) (cond b (new_picture k f (p ∷ before) ∷ p ∷ before) (more ∷ before))
      by_test true = begun f
      by_test false = same (told_same more p before refl) refl

  whole_step : (k : ℕ) (o : Option Slice) (old : List Picture) → Step k old (with_whole k o old)
  whole_step k None old = same refl refl
  whole_step k (Some f) old = slice_step k f old

  sequence_end_step : (k : ℕ) (old : List Picture) → Step k old (with_sequence_end old)
  sequence_end_step k [] = same refl refl
  sequence_end_step k (p ∷ before) = same (told_same (record p { sequence_ends = true }) p before refl) refl

  bitstream_end_step : (k : ℕ) (old : List Picture) → Step k old (with_bitstream_end old)
  bitstream_end_step k [] = same refl refl
  bitstream_end_step k (p ∷ before) = same (told_same (record p { bitstream_ends = true }) p before refl) refl

  unit_step : (k : ℕ) (m : Meaning) (v : Stream) → Step k v.pictures (with_unit k m v).pictures
  unit_step k (SequenceSet format) v = same refl refl
  unit_step k (CodedSlice s) v = whole_step k (whole_slice v.kept s) v.pictures
  unit_step k EndOfSequence v = sequence_end_step k v.pictures
  unit_step k EndOfBitstream v = bitstream_end_step k v.pictures
  unit_step k Other v = same refl refl
  unit_step k (Refused cause) v = same refl refl

  -- ---- what is told by the two standings

  not_next : (n : ℕ) → (n + 1 == n) ≡ false
  not_next n = grind (arith, nat_tests)

  is_same : (n m : ℕ) → n ≡ m → (n == m) ≡ true
  is_same n m e = grind (arith, nat_tests, e)

  number_is : (ps : List Picture) → (context ps).number ≡ (next_context ps).number
  number_is [] = refl
  number_is (p ∷ before) = refl

  no_leading : (t : ℕ) → is_idr t || is_bla t ≡ true
      → (is_rasl t ≡ false) × (not (is_radl t || is_rasl t || is_slnr t) ≡ true)
  no_leading t e = (grind (arith, nat_tests), grind (arith, nat_tests))

  pick : (b z r : Bool) (q : PlainPoint) → (b ≡ true → r ≡ true)
      → option_to_list (cond (b && (z && r)) (Some q) None) ≡ cond (b && z) (q ∷ []) []
  pick true true true q h = refl
  pick true true false q h = absurd (cc (h refl))
  pick true false r q h = refl
  pick false z r q h = refl

  none_of : (b z : Bool) (q : PlainPoint) → (b ≡ true → ⊥) → [] ≡ cond (b && z) (q ∷ []) []
  none_of true z q h = absurd (h refl)
  none_of false z q h = refl

  new_told : (k : ℕ) (f : Slice) (old : List Picture)
      → option_to_list
      (point_by k (offset_at k) (cond (new_picture k f old).skipped None (Some (new_picture k f old).head)))
      ≡ one (new_picture k f old)
  unfolding head
  new_told k f old = by_skip (is_rasl f.nal_unit_type && (context old).latest_irap_no_rasl) refl
    where
      p : Picture
      p = new_picture k f old

      t : ℕ
      t = f.nal_unit_type

      isnt_rasl : is_rasl t && (context old).latest_irap_no_rasl ≡ true → is_idr t || is_bla t ≡ true → ⊥
      isnt_rasl e i =
          let other =
          (no_leading t i).0 in cc (sym (ap (λ (b : Bool). b && (context old).latest_irap_no_rasl) other) ∙ e)

      by_skip : (b : Bool) → is_rasl t && (context old).latest_irap_no_rasl ≡ b
          → option_to_list (point_by k (offset_at k) (cond b None (Some p.head))) ≡ one p
      by_skip true e = none_of (is_idr t || is_bla t) (f.temporal_id == 0) (point_in offset_at p) (isnt_rasl e)
      by_skip false e =
          pick (is_idr t || is_bla t) (f.temporal_id == 0) (not (is_radl t || is_rasl t || is_slnr t))
          (point_in offset_at p) (λ i. (no_leading t i).1)

  open_of : (h : Head) (set : RefPicSet) (b : Bool)
      → open_head (cond b SkippedPicture (OpenPicture h set)) ≡ cond b None (Some h)
  open_of h set true = refl
  open_of h set false = refl

  is_next : (k : ℕ) (f : Slice) (old : List Picture)
      → ((next_context (new_picture k f old ∷ old)).number == (next_context old).number) ≡ false
  unfolding head
  is_next k f old = ap (λ (n : ℕ). (context old).number + 1 == n) (sym (number_is old)) ∙ not_next (context old).number

  abbrev Told : ℕ → Option (ℕ × Format) → List Picture → List Picture → Type 0
  Told k set old new =
      told new ≡ told old
      ++ option_to_list
      (cond ((next_context new).number == (next_context old).number) None
      (point_by k (offset_at k) (open_head (current_by set new))))

  by_step : (k : ℕ) (set : Option (ℕ × Format)) (old new : List Picture) → Step k old new → Told k set old new
  by_step k set old new (same e n) =
      e
      ∙ sym (append-nil (told old))
      ∙ ap (λ (b : Bool). told old
      ++ option_to_list (cond b None (point_by k (offset_at k) (open_head (current_by set new)))))
      (sym (is_same (next_context new).number (next_context old).number n))
  by_step k set old _ (begun f) =
      let p = new_picture k f old in
      told_more p old
      ∙ ap (λ (l : List PlainPoint). told old ++ l)
      (sym (new_told k f old)
      ∙ ap (λ (o : Option Head). option_to_list (point_by k (offset_at k) o))
      (sym (open_of p.head (reference_set_of set p old) p.skipped))
      ∙ ap (λ (b : Bool). option_to_list
      (cond b None (point_by k (offset_at k) (open_head (current_by set (p ∷ old)))))) (sym (is_next k f old)))

  pub points_more : (k : ℕ) (m : Meaning) (v : Stream)
      → told (with_unit k m v).pictures ≡ told v.pictures
      ++ option_to_list (point_begun (standing v).next.number k (offset_at k) (standing (with_unit k m v)))
  points_more k m v = by_step k (with_unit k m v).first_set v.pictures (with_unit k m v).pictures (unit_step k m v)
