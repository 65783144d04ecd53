-- The content of a unit is what its payload spells.
use Rattle.std.proofs.Common.{◌≡◌, ℕ, ◌≤◌, Bool, true, false, List, Ok, Err, refl, ap, ◌∙◌, arith}
use Rattle.std.specs.Prelude.{◌||◌, ◌==◌, not, Result, if◌then◌else◌, drop}
use Rattle.std.proofs.lemmas.Bool.Decides.{nat_tests}
use Rattle.hevc_spec.specs.UnitHeader.{UnitHeader, HeaderFault, unit_header}
use Rattle.hevc_spec.specs.UnitTypes.{is_slice, is_end}
use Rattle.hevc_spec.specs.Payload.{payload}
use Rattle.hevc_spec.specs.Table.{Table, Reading, gives, refuses, read}
use Rattle.hevc_reading_laws.proofs.TableLaws.{spelled_from_read, read_from_spelled}
use Rattle.hevc_reading_laws.proofs.TableLaws.{breaks_from_refused, refused_from_breaks}
use Rattle.hevc_tables.specs.VpsTable.{video_parameter_set}
use Rattle.hevc_tables.specs.SpsTable.{sequence_parameter_set}
use Rattle.hevc_tables.specs.PpsTable.{picture_parameter_set}
use Rattle.hevc_tables.specs.SliceHeaderTable.{slice_segment_header, active_sets}
use Rattle.hevc_stream.specs.Options.{Options}
use Rattle.hevc_stream.specs.Kept.{Kept}
use Rattle.hevc_stream.specs.Slices.{temporal_id}
use Rattle.hevc_stream.specs.Contents.{Content, video_set, sequence_set, picture_set, slice}
use Rattle.hevc_stream.specs.Contents.{end_of_sequence, end_of_bitstream, nothing, content_read}
use Rattle.hevc_stream.specs.Contents.{picture_set_read, slice_content, coded_content}
use Rattle.hevc_stream.specs.Contents.{content_by_type, headed_content, content, wants}
use Rattle.hevc_stream_laws.specs.UnitMeans.{MeansBy, spells, breaks_off, refused_for, unread}
use Rattle.hevc_stream_laws.specs.UnitMeans.{is_parameter_set, MeansByType, is_video_set}
use Rattle.hevc_stream_laws.specs.UnitMeans.{is_sequence_set, is_picture_set, is_slice_segment}
use Rattle.hevc_stream_laws.specs.UnitMeans.{ends_sequence, ends_bitstream, comes_first, is_other}
use Rattle.hevc_stream_laws.specs.UnitMeans.{Means, is_faulty, is_unwanted, is_wanted}

-- ---- one table

module _ {A : Type 0} (t : Table A) (means : A → Content) (bits : List Bool) where
  read_by : (r : Reading A) → read t bits ≡ r → MeansBy t means refused_for bits (content_read means r)
  read_by (gives x rest) e = spells x rest (spelled_from_read t bits x rest e) refl
  read_by (refuses fault rest) e = breaks_off fault rest (breaks_from_refused t bits fault rest e) refl

  means_read : MeansBy t means refused_for bits (content_read means (read t bits))
  means_read = read_by (read t bits) refl

  only_read : (c : Content) → MeansBy t means refused_for bits c → content_read means (read t bits) ≡ c
  only_read c (spells x rest s e) = ap (content_read means) (read_from_spelled t bits x rest s) ∙ e
  only_read c (breaks_off fault rest b e) = ap (content_read means) (refused_from_breaks t bits fault rest b) ∙ e

module _ (kept : Kept) (h : UnitHeader) (bits : List Bool) where
  picture_set_by : (r : Reading _)
      → read (picture_parameter_set (temporal_id h) kept.sequence_sets) bits ≡ r
      → MeansBy (picture_parameter_set (temporal_id h) kept.sequence_sets) picture_set unread bits (picture_set_read r)
  picture_set_by (gives x rest) e =
      spells x rest (spelled_from_read (picture_parameter_set (temporal_id h) kept.sequence_sets) bits x rest e) refl
  picture_set_by (refuses fault rest) e =
      breaks_off fault rest
      (breaks_from_refused (picture_parameter_set (temporal_id h) kept.sequence_sets) bits fault rest e) refl

  only_picture_set : (c : Content)
      → MeansBy (picture_parameter_set (temporal_id h) kept.sequence_sets) picture_set unread bits c
      → picture_set_read (read (picture_parameter_set (temporal_id h) kept.sequence_sets) bits) ≡ c
  only_picture_set c (spells x rest s e) =
      ap picture_set_read
      (read_from_spelled (picture_parameter_set (temporal_id h) kept.sequence_sets) bits x rest s) ∙ e
  only_picture_set c (breaks_off fault rest b e) =
      ap picture_set_read
      (refused_from_breaks (picture_parameter_set (temporal_id h) kept.sequence_sets) bits fault rest b) ∙ e

-- ---- types

pub slice_isnt : (t n : ℕ) → is_slice t ≡ true → 30 ≤ n → (t == n) ≡ false
slice_isnt t n e big = grind (arith, nat_tests)

is_number : (t n : ℕ) → (t == n) ≡ true → t ≡ n
is_number t n e = grind (arith, nat_tests)

-- a type that is none of the parameter sets'
none_of : (t : ℕ) → is_parameter_set t ≡ false → ((t == 32) ≡ false) × ((t == 33) ≡ false) × ((t == 34) ≡ false)
none_of t e = (grind (arith, nat_tests), grind (arith, nat_tests), grind (arith, nat_tests))

no_end : (t : ℕ) → (is_slice t || is_end t) ≡ false → (is_slice t ≡ false) × ((t == 36) ≡ false) × ((t == 37) ≡ false)
no_end t e = (grind (arith, nat_tests), grind (arith, nat_tests), grind (arith, nat_tests))

none : (t : ℕ) → (t == 32) ≡ false → (t == 33) ≡ false → (t == 34) ≡ false → is_parameter_set t ≡ false
none t a b c = rw (a, b, c) refl

other : (t : ℕ) → is_slice t ≡ false → (t == 36) ≡ false → (t == 37) ≡ false → (is_slice t || is_end t) ≡ false
other t a b c = rw (a, b, c) refl

-- ---- by the type

module _ (kept : Kept) (h : UnitHeader) (bytes : List ℕ) where
  only_typed : (c : Content) → MeansByType kept h bytes c → content_by_type kept h bytes ≡ c
  only_typed c (is_video_set e m) = rw e (only_read video_parameter_set video_set (payload bytes) c m)
  only_typed c (is_sequence_set e m) = rw e (only_read sequence_parameter_set sequence_set (payload bytes) c m)
  only_typed c (is_picture_set e m) = rw e (only_picture_set kept h (payload bytes) c m)
  only_typed c (is_slice_segment has s m) =
      rw (
        slice_isnt h.nal_unit_type 32 s (omega arith),
        slice_isnt h.nal_unit_type 33 s (omega arith),
        slice_isnt h.nal_unit_type 34 s (omega arith),
        has,
        s,
      ) (only_read
      (slice_segment_header h.nal_unit_type (drop 2 bytes)
      (active_sets kept.sequence_sets kept.picture_sets)) (slice h) (payload bytes) c m)
  only_typed c (ends_sequence has e m) = rw (e, has) m
  only_typed c (ends_bitstream has e m) = rw (e, has) m
  only_typed c (comes_first has n m) = let t = none_of h.nal_unit_type n in rw (t.0, t.1, t.2, has) m
  only_typed c (is_other n o m) = by_set kept.has_sequence_set refl
    where
      by_set : (b : Bool) → kept.has_sequence_set ≡ b → content_by_type kept h bytes ≡ c
      by_set true has = let t = none_of h.nal_unit_type n in let u = no_end h.nal_unit_type o in
          rw (t.0, t.1, t.2, has, u.0, u.1, u.2) m
      by_set false has = let t = none_of h.nal_unit_type n in rw (t.0, t.1, t.2, has) m

  -- the cases of the definition in turn
  means_coded : is_parameter_set h.nal_unit_type ≡ false → (has s q p : Bool) → kept.has_sequence_set ≡ has
      → is_slice h.nal_unit_type ≡ s → (h.nal_unit_type == 36) ≡ q → (h.nal_unit_type == 37) ≡ p
      → MeansByType kept h bytes
      (if not has then nothing else if s then slice_content kept h
      bytes else if q then end_of_sequence else if p then end_of_bitstream else nothing)
  means_coded n false s q p e f g i = comes_first e n refl
  means_coded n true true q p e f g i =
      is_slice_segment e f
      (means_read (slice_segment_header h.nal_unit_type (drop 2 bytes)
      (active_sets kept.sequence_sets kept.picture_sets)) (slice h) (payload bytes))
  means_coded n true false true p e f g i = ends_sequence e (is_number h.nal_unit_type 36 g) refl
  means_coded n true false false true e f g i = ends_bitstream e (is_number h.nal_unit_type 37 i) refl
  means_coded n true false false false e f g i = is_other n (other h.nal_unit_type f g i) refl

  means_by : (v s p : Bool) → (h.nal_unit_type == 32) ≡ v → (h.nal_unit_type == 33) ≡ s → (h.nal_unit_type == 34) ≡ p
      → MeansByType kept h bytes
      (if v then content_read video_set
      (read video_parameter_set (payload bytes)) else if s then content_read sequence_set
      (read sequence_parameter_set (payload bytes)) else if p then picture_set_read
      (read (picture_parameter_set (temporal_id h) kept.sequence_sets) (payload bytes)) else coded_content kept h bytes)
  means_by true s p e f g =
      is_video_set (is_number h.nal_unit_type 32 e) (means_read video_parameter_set video_set (payload bytes))
  means_by false true p e f g =
      is_sequence_set (is_number h.nal_unit_type 33 f) (means_read sequence_parameter_set sequence_set (payload bytes))
  means_by false false true e f g =
      is_picture_set (is_number h.nal_unit_type 34 g) (picture_set_by kept h (payload bytes) _ refl)
  means_by false false false e f g =
      means_coded (none h.nal_unit_type e f g) kept.has_sequence_set (is_slice h.nal_unit_type)
      (h.nal_unit_type == 36) (h.nal_unit_type == 37) refl refl refl refl

  means_typed : MeansByType kept h bytes (content_by_type kept h bytes)
  means_typed = means_by (h.nal_unit_type == 32) (h.nal_unit_type == 33) (h.nal_unit_type == 34) refl refl refl

-- ---- by the header

module _ (options : Options) (kept : Kept) (bytes : List ℕ) where
  by_layer : (h : UnitHeader) → unit_header bytes ≡ Ok h → (b : Bool)
      → wants options h ≡ b
      → Means options kept bytes (if b then content_by_type kept h bytes else nothing)
  by_layer h e true t = is_wanted h e t (means_typed kept h bytes)
  by_layer h e false t = is_unwanted h e t refl

  by_header : (r : Result UnitHeader HeaderFault) → unit_header bytes ≡ r
      → Means options kept bytes (headed_content options kept bytes r)
  by_header (Ok h) e = by_layer h e (wants options h) refl
  by_header (Err fault) e = is_faulty fault e refl

  pub means_content : Means options kept bytes (content options kept bytes)
  unfolding content
  means_content = by_header (unit_header bytes) refl

  pub only_content : (c : Content) → Means options kept bytes c → content options kept bytes ≡ c
  unfolding content
  only_content c (is_faulty fault e m) = rw e m
  only_content c (is_unwanted h e above m) = rw (e, above) m
  only_content c (is_wanted h e below m) = rw (e, below) (only_typed kept h bytes c m)
