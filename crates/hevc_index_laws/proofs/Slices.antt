-- What the first slice of a picture tells of it.
use Rattle.std.proofs.Common.{◌≡◌, ℕ, zero, suc, ◌+◌, ◌<◌, pos, Bool, true, false, cond, ◌||◌, List}
use Rattle.std.proofs.Common.{[], ◌∷◌, ◌++◌, length, refl, sym, ap, subst, ◌∙◌, arith, Option, Some}
use Rattle.std.proofs.Common.{None, Ok, zero-add, add-zero}
use Rattle.std.specs.Prelude.{All, HoldsAt, slice_index_or}
use Rattle.std.proofs.lemmas.Bool.Decides.{nat_tests}
use Rattle.std.proofs.lemmas.List.Elements.{All-contains, All-cons, All-head, All-nil, All-tail}
use Rattle.hevc_spec.specs.UnitHeader.{UnitHeader, unit_header}
use Rattle.hevc_spec.specs.UnitTypes.{is_idr, is_bla, is_irap}
use Rattle.hevc_spec.specs.Units.{NalUnit, units}
use Rattle.hevc_records.specs.SliceHeader.{PlainSliceSegmentHeader}
use Rattle.hevc_tables.specs.SliceHeaderTable.{ActiveSets, active_sets}
use Rattle.hevc_walk.specs.DependentSlices.{KeptHeader, completes, whole_slice, with_kept}
use Rattle.hevc_walk.specs.Meanings.{Slice, Meaning, SequenceSet, CodedSlice, EndOfSequence}
use Rattle.hevc_walk.specs.Meanings.{EndOfBitstream, Other, Refused}
use Rattle.hevc_walk.specs.Pictures.{Picture, Stream, head, new_picture, nothing_yet, pictures}
use Rattle.hevc_walk.specs.Pictures.{stream_from, with_bitstream_end, with_sequence_end, with_slice}
use Rattle.hevc_walk.specs.Pictures.{with_unit, with_whole}
use Rattle.hevc_walk_splice.specs.Splicing.{IsPoint}
use Rattle.hevc_stream.specs.Contents.{Content, video_set, sequence_set, picture_set}
use Rattle.hevc_stream.specs.Contents.{unread_picture_set, slice, end_of_sequence, end_of_bitstream}
use Rattle.hevc_stream.specs.Contents.{nothing, content}
use Rattle.hevc_stream.specs.Kept.{Kept, none_kept}
use Rattle.hevc_stream.specs.Options.{Options}
use Rattle.hevc_stream.specs.Slices.{coded_slice, slice_segment_meaning, temporal_id}
use Rattle.hevc_stream.specs.Stream.{kept_behind, meaning, meaning_of, meanings, meanings_behind}
use Rattle.hevc_stream_laws.specs.UnitMeans.{spells, breaks_off, refused_for, MeansByType}
use Rattle.hevc_stream_laws.specs.UnitMeans.{is_video_set, is_sequence_set, is_picture_set}
use Rattle.hevc_stream_laws.specs.UnitMeans.{is_slice_segment, ends_sequence, ends_bitstream}
use Rattle.hevc_stream_laws.specs.UnitMeans.{comes_first, is_other, Means, is_faulty, is_unwanted}
use Rattle.hevc_stream_laws.specs.UnitMeans.{is_wanted}
use Rattle.hevc_stream_laws.proofs.OneContent.{means_content}
use Rattle.hevc_index_laws.specs.Points.{points, BeginsPicture}
use Rattle.hevc_index_laws.proofs.Begun.{length_meant}
use Rattle.hevc_index_laws.proofs.Points.{contain_points, units_within}

-- ---- what holds of each picture as it begins

-- P holds of a picture, whatever its later slices and its ends are
abbrev IsOfFirst : (Picture → Type 0) → Type 0
IsOfFirst P = (p q : Picture) → p.head ≡ q.head → p.unit ≡ q.unit → p.first ≡ q.first → P p → P q

module _ (P : Picture → Type 0) (of : IsOfFirst P) where
  with_end : (before : List Picture) → All P before → All P (with_sequence_end before)
  with_end [] all = all
  with_end (p ∷ before) all =
      All-cons P (record p { sequence_ends = true }) before
      (of p (record p { sequence_ends = true }) refl refl refl (All-head P p before all)) (All-tail P p before all)

  with_last_end : (before : List Picture) → All P before → All P (with_bitstream_end before)
  with_last_end [] all = all
  with_last_end (p ∷ before) all =
      All-cons P (record p { bitstream_ends = true }) before
      (of p (record p { bitstream_ends = true }) refl refl refl (All-head P p before all)) (All-tail P p before all)

  with_first : (k : ℕ) (s : Slice) (before : List Picture) → P (new_picture k s before) → All P before
      → All P (with_slice k s before)
  with_first k s [] new all = All-cons P (new_picture k s []) [] new all
  with_first k s (p ∷ before) new all = by_test s.first_slice_segment_in_pic_flag
    where
      more : Picture
      more = record p { slices = p.slices ++ (k, s) ∷ [] }

      by_test : (b : Bool) → All P (cond b (new_picture k s (p ∷ before) ∷ p ∷ before) (more ∷ before))
      by_test true = All-cons P (new_picture k s (p ∷ before)) (p ∷ before) new all
      by_test false =
          All-cons P more before (of p more refl refl refl (All-head P p before all)) (All-tail P p before all)

-- ---- order counts

abbrev IsCounted : Picture → Type 0
IsCounted p = is_idr p.nal_unit_type || is_bla p.nal_unit_type ≡ true → p.order_count ≡ pos p.first.pic_order_cnt_lsb

counted_same : IsOfFirst IsCounted
counted_same p q h u f is point =
    ap (λ x. x.order_count) (sym h) ∙ is (ap (λ x. is_idr x.nal_unit_type || is_bla x.nal_unit_type) h ∙ point)
    ∙ ap (λ (s : Slice). pos s.pic_order_cnt_lsb) f

counted_new : (k : ℕ) (s : Slice) (before : List Picture) → IsCounted (new_picture k s before)
unfolding head
counted_new k s before point = rw (irap s.nal_unit_type point, point) refl
  where
    irap : (t : ℕ) → is_idr t || is_bla t ≡ true → is_irap t ≡ true
    irap t e = grind (arith, nat_tests)

-- ---- all pictures

module _ (P : Picture → Type 0) (of : IsOfFirst P) (all : List Meaning) where
  -- a slice begins a picture at its unit
  abbrev IsOfNew : Type 0
  IsOfNew =
      (k : ℕ) (kept : Option KeptHeader) (s f : Slice) (before : List Picture) → HoldsAt (λ m. m ≡ CodedSlice s) all k
      → whole_slice kept s ≡ Some f → P (new_picture k f before)

  from_unit : IsOfNew → (k : ℕ) (u : Meaning) (v : Stream) → HoldsAt (λ m. m ≡ u) all k → All P v.pictures
      → All P (with_unit k u v).pictures
  from_unit new k (SequenceSet format) v at h = h
  from_unit new k (CodedSlice s) v at h = by_whole (whole_slice v.kept s) refl
    where
      by_whole : (o : Option Slice) → whole_slice v.kept s ≡ o → All P (with_whole k o v.pictures)
      by_whole None e = h
      by_whole (Some f) e = with_first P of k f v.pictures (new k v.kept s f v.pictures at e) h
  from_unit new k EndOfSequence v at h = with_end P of v.pictures h
  from_unit new k EndOfBitstream v at h = with_last_end P of v.pictures h
  from_unit new k Other v at h = h
  from_unit new k (Refused cause) v at h = h

  from_units : IsOfNew → (k : ℕ) (v : Stream) (us : List Meaning)
      → ((i : ℕ) (d : Meaning) → i < length us → slice_index_or all (k + i) d ≡ slice_index_or us i d)
      → All P v.pictures → All P (stream_from k v us).pictures
  from_units new k v [] same h = h
  from_units new k v (u ∷ us) same h =
      from_units new (k + 1) (with_unit k u v) us
      (λ i d lt. let next : k + 1 + i ≡ k + suc i = omega arith in ap (λ (n : ℕ). slice_index_or all n d) next
      ∙ same (suc i) d (omega arith))
      (from_unit new k u v (λ d. ap (λ (n : ℕ). slice_index_or all n d) (sym (add-zero k)) ∙ same 0 d (omega arith)) h)

  all_pictures : IsOfNew → All P (pictures all)
  all_pictures new =
      from_units new 0 nothing_yet all (λ i d lt. ap (λ (n : ℕ). slice_index_or all n d) (zero-add i)) (All-nil P)

pub order_count_is : (us : List Meaning) (p : Picture) → IsPoint us p → p.order_count ≡ pos p.first.pic_order_cnt_lsb
order_count_is us p is =
    All-contains IsCounted (pictures us) p
    (all_pictures IsCounted counted_same us (λ k kept s f before at e. counted_new k f before)) is.among
    is.nal_unit_type

-- ---- the slice at a picture's unit

record HasSlice (all : List Meaning) (p : Picture) : Type 0 where
  s : Slice
  at : HoldsAt (λ m. m ≡ CodedSlice s) all p.unit
  nal_unit_type : s.nal_unit_type ≡ p.nal_unit_type
  temporal_id : s.temporal_id ≡ p.first.temporal_id

slice_same : (all : List Meaning) → IsOfFirst (HasSlice all)
slice_same all p q h u f has = record {
  s = has.s;
  at = subst (λ (k : ℕ). HoldsAt (λ m. m ≡ CodedSlice has.s) all k) u has.at;
  nal_unit_type = has.nal_unit_type ∙ ap (λ x. x.nal_unit_type) h;
  temporal_id = has.temporal_id ∙ ap (λ (x : Slice). x.temporal_id) f;
}

abbrev Alike : Slice → Slice → Type 0
Alike s f = (s.nal_unit_type ≡ f.nal_unit_type) × (s.temporal_id ≡ f.temporal_id)

whole_alike : (kept : Option KeptHeader) (s f : Slice) → whole_slice kept s ≡ Some f → Alike s f
whole_alike kept s f e = by_test s.dependent_slice_segment_flag e
  where
    by_complete : (x : KeptHeader) (b : Bool) → cond b (Some (record s { header = x.header })) None ≡ Some f → Alike s f
    by_complete x true e =
        let same : record s { header = x.header } ≡ f =
        cc e in (ap (λ (y : Slice). y.nal_unit_type) same, ap (λ (y : Slice). y.temporal_id) same)
    by_complete x false e = absurd (cc e)

    by_kept : (o : Option KeptHeader) → with_kept o s ≡ Some f → Alike s f
    by_kept None e = absurd (cc e)
    by_kept (Some x) e = by_complete x (completes x s) e

    by_test : (b : Bool) → cond b (with_kept kept s) (Some s) ≡ Some f → Alike s f
    by_test true e = by_kept kept e
    by_test false e =
        let same : s ≡ f = cc e in (ap (λ (y : Slice). y.nal_unit_type) same, ap (λ (y : Slice). y.temporal_id) same)

slice_new : (all : List Meaning) (k : ℕ) (kept : Option KeptHeader) (s f : Slice) (before : List Picture)
    → HoldsAt (λ m. m ≡ CodedSlice s) all k → whole_slice kept s ≡ Some f → HasSlice all (new_picture k f before)
unfolding head
slice_new all k kept s f before at e =
    let alike = whole_alike kept s f e in
    record { s = s; at = at; nal_unit_type = alike.0; temporal_id = alike.1 }

-- ---- its unit

record Headed (bytes : List ℕ) (s : Slice) : Type 0 where
  header : UnitHeader
  is : unit_header bytes ≡ Ok header
  nal_unit_type : header.nal_unit_type ≡ s.nal_unit_type
  temporal_id : temporal_id header ≡ s.temporal_id

of_content : (options : Options) (kept : Kept) (bytes : List ℕ) (s : Slice) (c : Content) → Means options kept bytes c
    → meaning_of options kept bytes c ≡ CodedSlice s → Headed bytes s
of_content options kept bytes s c (is_faulty fault f m) e = absurd (cc (ap (meaning_of options kept bytes) m ∙ e))
of_content options kept bytes s c (is_unwanted h f above m) e = absurd (cc (ap (meaning_of options kept bytes) m ∙ e))
of_content options kept bytes s c (is_wanted h f below m) e = by_type m
  where
    means : (d : Content) → d ≡ c → meaning_of options kept bytes d ≡ CodedSlice s
    means d m = ap (meaning_of options kept bytes) m ∙ e

    by_sets : (x : PlainSliceSegmentHeader) (o : Option ActiveSets)
        → slice_segment_meaning options h bytes x o ≡ CodedSlice s → Headed bytes s
    by_sets x None e = absurd (cc e)
    by_sets x (Some sets) e =
        let same : coded_slice options h bytes x sets ≡ s = cc e in
        record {
          header = h;
          is = f;
          nal_unit_type = ap (λ (y : Slice). y.nal_unit_type) same;
          temporal_id = ap (λ (y : Slice). y.temporal_id) same;
        }

    by_type : MeansByType kept h bytes c → Headed bytes s
    by_type (is_video_set t (spells x rest sp m)) = absurd (cc (means (video_set x) m))
    by_type (is_video_set t (breaks_off fault rest b m)) = absurd (cc (means (refused_for fault) m))
    by_type (is_sequence_set t (spells x rest sp m)) = absurd (cc (means (sequence_set x) m))
    by_type (is_sequence_set t (breaks_off fault rest b m)) = absurd (cc (means (refused_for fault) m))
    by_type (is_picture_set t (spells x rest sp m)) = absurd (cc (means (picture_set x) m))
    by_type (is_picture_set t (breaks_off fault rest b m)) = absurd (cc (means unread_picture_set m))
    by_type (is_slice_segment has t (spells x rest sp m)) =
        by_sets x (active_sets kept.sequence_sets kept.picture_sets x.pic_parameter_set_id) (means (slice h x) m)
    by_type (is_slice_segment has t (breaks_off fault rest b m)) = absurd (cc (means (refused_for fault) m))
    by_type (ends_sequence has t m) = absurd (cc (means end_of_sequence m))
    by_type (ends_bitstream has t m) = absurd (cc (means end_of_bitstream m))
    by_type (comes_first has t m) = absurd (cc (means nothing m))
    by_type (is_other t o m) = absurd (cc (means nothing m))

headed : (options : Options) (kept : Kept) (bytes : List ℕ) (s : Slice) → meaning options kept bytes ≡ CodedSlice s
    → Headed bytes s
unfolding meaning
headed options kept bytes s e =
    of_content options kept bytes s (content options kept bytes) (means_content options kept bytes) e

headed_at : (options : Options) (kept : Kept) (us : List NalUnit) (s : Slice) (k : ℕ) (d : NalUnit) → k < length us
    → HoldsAt (λ m. m ≡ CodedSlice s) (meanings_behind options kept us) k → Headed (slice_index_or us k d).bytes s
headed_at options kept [] s k d lt at = absurd (omega arith)
headed_at options kept (u ∷ us) s zero d lt at = headed options kept u.bytes s (at Other)
headed_at options kept (u ∷ us) s (suc k) d lt at =
    headed_at options (kept_behind options kept u.bytes) us s k d (omega arith) at

pub header_is : (options : Options) (stream : List ℕ) (p : Picture) → IsPoint (meanings options stream) p
    → HoldsAt (BeginsPicture p) (units stream) p.unit
header_is options stream p is d =
    let us = meanings options stream in
    let within : p.unit < length us =
    All-contains (λ q. q.unit < length us) (points us) p (units_within us) (contain_points us p is) in
    let long : length us ≡ length (units stream) = length_meant options none_kept (units stream) in
    let has =
    All-contains (HasSlice us) (pictures us) p (all_pictures (HasSlice us) (slice_same us) us (slice_new us))
    is.among in
    let head = headed_at options none_kept (units stream) has.s p.unit d (omega arith) has.at in
    record {
      header = head.header;
      is_header = head.is;
      nal_unit_type = head.nal_unit_type ∙ has.nal_unit_type;
      temporal_id = head.temporal_id ∙ has.temporal_id;
    }
