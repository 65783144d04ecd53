-- The size of a header's own short-term set: no other row goes by it.
use Rattle.std.proofs.Common.{◌≡◌, ℕ, zero, suc, ◌+◌, Bool, true, false, List, [], ◌++◌, length}
use Rattle.std.proofs.Common.{refl, sym, ap, subst, ◌∙◌}
use Rattle.std.proofs.lemmas.List.{append-nil}
use Rattle.std.specs.Prelude.{not, Option, Some, None}
use Rattle.hevc_spec.specs.Table.{Table, part, done}
use Rattle.hevc_spec.specs.Rows.{row, when, either, repeat}
use Rattle.hevc_spec.specs.Lines.{Line, HasLines, joined}
use Rattle.hevc_records.specs.Pps.{PlainPps}
use Rattle.hevc_records.specs.SliceHeader.{PlainSliceSegmentHeader, default_slice_header}
use Rattle.hevc_records.specs.Sps.{PlainSps}
use Rattle.hevc_spec.specs.UnitTypes.{is_idr}
use Rattle.hevc_tables.specs.PpsTable.{named}
use Rattle.hevc_tables.specs.ShortTermTable.{short_term_ref_pic_set}
use Rattle.hevc_tables.specs.SpsTable.{highest_buffering}
use Rattle.hevc_tables.specs.SliceTypes.{is_i}
use Rattle.hevc_tables.specs.SliceHeaderTable.{ActiveSets, across_slices, active_counts}
use Rattle.hevc_tables.specs.SliceHeaderTable.{adaptive_offset, beginning}
use Rattle.hevc_tables.specs.SliceHeaderTable.{candidate_long_term_picture}
use Rattle.hevc_tables.specs.SliceHeaderTable.{candidate_short_term_set, chroma_offsets}
use Rattle.hevc_tables.specs.SliceHeaderTable.{colour_transform_offsets, elements, ending}
use Rattle.hevc_tables.specs.SliceHeaderTable.{entry_point_offsets, extension_offsets}
use Rattle.hevc_tables.specs.SliceHeaderTable.{filter_offsets, filters, header_extension, header_of}
use Rattle.hevc_tables.specs.SliceHeaderTable.{independent_segment, kind, later_segment}
use Rattle.hevc_tables.specs.SliceHeaderTable.{list_modification, long_term, long_term_counts}
use Rattle.hevc_tables.specs.SliceHeaderTable.{long_term_picture, long_term_pictures, motion}
use Rattle.hevc_tables.specs.SliceHeaderTable.{msb_cycles, num_pic_total_curr}
use Rattle.hevc_tables.specs.SliceHeaderTable.{other_long_term_picture, own_active_counts}
use Rattle.hevc_tables.specs.SliceHeaderTable.{own_deblocking, own_short_term_set, parallel_parts}
use Rattle.hevc_tables.specs.SliceHeaderTable.{prediction, quantiser, quantisers, reference_lists}
use Rattle.hevc_tables.specs.SliceHeaderTable.{reference_pictures, short_term, weights}
use Rattle.hevc_tables.specs.SliceHeaderTable.{with_default_active_counts, with_pictures}
use Rattle.hevc_write_elements.specs.Filling.{EachFilling}
use Rattle.hevc_write_units.specs.Slices.{IsSameButSizes, WritesSized}
use Rattle.hevc_write_slice_header.specs.HeaderParts as own

-- a header with this size of its own set
abbrev pub with_set_size : ℕ → PlainSliceSegmentHeader → PlainSliceSegmentHeader
with_set_size s h = record h { st_rps_bits = s }

-- the lines of one table are those of another, of a header with this size
pub record Moved (s : ℕ) (t u : Table PlainSliceSegmentHeader) : Type 0 where
  pub lines : (z : PlainSliceSegmentHeader) (ls : List Line) → HasLines t z ls → HasLines u (with_set_size s z) ls

module _ {s : ℕ} where
  -- an element and what comes after it
  row_moved : {A : Type 0} {t : Table A} {k m : A → Table PlainSliceSegmentHeader}
      → ((v : A) → Moved s (k v) (m v)) → Moved s (part t k) (part t m)
  row_moved f = record { lines = λ z ls has. (has.0, has.1, has.2, has.3, (f has.0).lines z has.2 has.4, has.5) }

  -- no rows
  done_moved : (h : PlainSliceSegmentHeader) → Moved s (done h) (done (with_set_size s h))
  done_moved h = record { lines = λ z ls has. (ap (with_set_size s) has.0, has.1) }

  -- a part and what comes after it
  then_moved : {t u : Table PlainSliceSegmentHeader} {k m : PlainSliceSegmentHeader
      → Table PlainSliceSegmentHeader} → Moved s t u
      → ((h : PlainSliceSegmentHeader) → Moved s (k h) (m (with_set_size s h))) → Moved s (part t k) (part u m)
  then_moved first f = record {
    lines = λ z ls has. (
      with_set_size s has.0,
      has.1,
      has.2,
      first.lines has.0 has.1 has.3,
      (f has.0).lines z has.2 has.4,
      has.5,
    );
  }

  -- a part under a condition
  when_moved : (c : Bool) (h : PlainSliceSegmentHeader) {t u : Table PlainSliceSegmentHeader} → Moved s t u
      → Moved s (when c h t) (when c (with_set_size s h) u)
  unfolding when
  when_moved true h moved = moved
  when_moved false h moved = done_moved h

  -- one of two parts
  either_moved : (c : Bool) {t u v w : Table PlainSliceSegmentHeader} → Moved s t v → Moved s u w
      → Moved s (either c t u) (either c v w)
  unfolding either
  either_moved true first second = first
  either_moved false first second = second

  -- parts that are repeated
  turns_moved : (body : ℕ → PlainSliceSegmentHeader → Table PlainSliceSegmentHeader)
      → ((i : ℕ) (h : PlainSliceSegmentHeader) → Moved s (body i h) (body i (with_set_size s h)))
      → (i n : ℕ) (h : PlainSliceSegmentHeader) → Moved s (repeat body i n h) (repeat body i n (with_set_size s h))
  unfolding repeat
  turns_moved body each i zero h = done_moved h
  turns_moved body each i (suc n) h = then_moved (each i h) (λ k. turns_moved body each (i + 1) n k)

  -- rows 1 to 3 don't look at the size
  beginning_moved : (nalu_type : ℕ) → (h : PlainSliceSegmentHeader)
      → Moved s (beginning nalu_type h) (beginning nalu_type (with_set_size s h))
  unfolding beginning
  beginning_moved nalu_type h = row_moved (λ v1. row_moved (λ v2. row_moved (λ v3. done_moved _)))

  -- rows 4 and 5 don't look at the size
  later_segment_moved : (sps : PlainSps) (pps : PlainPps) → (h : PlainSliceSegmentHeader)
      → Moved s (later_segment sps pps h) (later_segment sps pps (with_set_size s h))
  unfolding later_segment
  later_segment_moved sps pps h = row_moved (λ v1. row_moved (λ v2. done_moved _))

  -- rows 6 to 9 don't look at the size
  kind_moved : (sps : PlainSps) (pps : PlainPps) → (h : PlainSliceSegmentHeader)
      → Moved s (kind sps pps h) (kind sps pps (with_set_size s h))
  unfolding kind
  kind_moved sps pps h = row_moved (λ v1. row_moved (λ v2. row_moved (λ v3. row_moved (λ v4. done_moved _))))

  -- row 13 doesn't look at the size
  candidate_short_term_set_moved : (sps : PlainSps) → (h : PlainSliceSegmentHeader)
      → Moved s (candidate_short_term_set sps h) (candidate_short_term_set sps (with_set_size s h))
  unfolding candidate_short_term_set
  candidate_short_term_set_moved sps h = row_moved (λ v1. done_moved _)

  -- rows 14 and 15 don't look at the size
  long_term_counts_moved : (sps : PlainSps) → (h : PlainSliceSegmentHeader)
      → Moved s (long_term_counts sps h) (long_term_counts sps (with_set_size s h))
  unfolding long_term_counts
  long_term_counts_moved sps h = row_moved (λ v1. row_moved (λ v2. done_moved _))

  -- rows 16 to 20 of one picture don't look at the size
  long_term_picture_moved : (sps : PlainSps) (i : ℕ) (h : PlainSliceSegmentHeader)
      → Moved s (long_term_picture sps i h) (long_term_picture sps i (with_set_size s h))
  unfolding long_term_picture candidate_long_term_picture other_long_term_picture msb_cycles
  long_term_picture_moved sps i h =
      then_moved (either_moved _ (row_moved (λ v1. done_moved _))
      (row_moved (λ v1. row_moved (λ v2. done_moved _)))) (λ h1. row_moved (λ v1. row_moved (λ v2. done_moved _)))

  -- rows 16 to 20 don't look at the size
  long_term_pictures_moved : (sps : PlainSps) (h : PlainSliceSegmentHeader)
      → Moved s (long_term_pictures sps h) (long_term_pictures sps (with_set_size s h))
  unfolding long_term_pictures
  long_term_pictures_moved sps h =
      turns_moved (long_term_picture sps) (long_term_picture_moved sps) 0 (h.num_long_term_sps + h.num_long_term_pics) h

  -- rows 14 to 20 don't look at the size
  long_term_moved : (sps : PlainSps) → (h : PlainSliceSegmentHeader)
      → Moved s (long_term sps h) (long_term sps (with_set_size s h))
  unfolding long_term
  long_term_moved sps h = then_moved (long_term_counts_moved sps _) (λ h1. long_term_pictures_moved sps _)

  -- rows 22 and 23 don't look at the size
  adaptive_offset_moved : (sps : PlainSps) → (h : PlainSliceSegmentHeader)
      → Moved s (adaptive_offset sps h) (adaptive_offset sps (with_set_size s h))
  unfolding adaptive_offset
  adaptive_offset_moved sps h = row_moved (λ v1. row_moved (λ v2. done_moved _))

  -- rows 25 and 26 don't look at the size
  own_active_counts_moved : (h : PlainSliceSegmentHeader)
      → Moved s (own_active_counts h) (own_active_counts (with_set_size s h))
  unfolding own_active_counts
  own_active_counts_moved h = row_moved (λ v1. row_moved (λ v2. done_moved _))

  -- rows 24 to 26 don't look at the size
  active_counts_moved : (pps : PlainPps) → (h : PlainSliceSegmentHeader)
      → Moved s (active_counts pps h) (active_counts pps (with_set_size s h))
  unfolding active_counts with_default_active_counts
  active_counts_moved pps h = row_moved (λ v1. either_moved v1 (own_active_counts_moved _) (done_moved _))

  -- row 27 doesn't look at the size
  list_modification_moved : (h : PlainSliceSegmentHeader)
      → Moved s (list_modification h) (list_modification (with_set_size s h))
  unfolding list_modification
  list_modification_moved h = row_moved (λ v1. done_moved _)

  -- rows 24 to 27 don't look at the size
  reference_lists_moved : (sps : PlainSps) (pps : PlainPps) → (h : PlainSliceSegmentHeader)
      → Moved s (reference_lists sps pps h) (reference_lists sps pps (with_set_size s h))
  unfolding reference_lists with_pictures num_pic_total_curr
  reference_lists_moved sps pps h = then_moved (active_counts_moved pps (with_pictures sps pps h))
      (λ h1. when_moved _ _ (list_modification_moved _))

  -- rows 28 to 31 don't look at the size
  motion_moved : (pps : PlainPps) → (h : PlainSliceSegmentHeader)
      → Moved s (motion pps h) (motion pps (with_set_size s h))
  unfolding motion
  motion_moved pps h = row_moved (λ v1. row_moved (λ v2. row_moved (λ v3. row_moved (λ v4. done_moved _))))

  -- rows 32 to 34 don't look at the size
  weights_moved : (sps : PlainSps) (pps : PlainPps) → (h : PlainSliceSegmentHeader)
      → Moved s (weights sps pps h) (weights sps pps (with_set_size s h))
  unfolding weights
  weights_moved sps pps h = row_moved (λ v1. row_moved (λ v2. row_moved (λ v3. done_moved _)))

  -- rows 24 to 34 don't look at the size
  prediction_moved : (sps : PlainSps) (pps : PlainPps) → (h : PlainSliceSegmentHeader)
      → Moved s (prediction sps pps h) (prediction sps pps (with_set_size s h))
  unfolding prediction
  prediction_moved sps pps h = then_moved (reference_lists_moved sps pps _)
      (λ h1. then_moved (motion_moved pps _) (λ h2. weights_moved sps pps _))

  -- rows 37 to 40 don't look at the size
  chroma_offsets_moved : (pps : PlainPps) → (h : PlainSliceSegmentHeader)
      → Moved s (chroma_offsets pps h) (chroma_offsets pps (with_set_size s h))
  unfolding chroma_offsets
  chroma_offsets_moved pps h = row_moved (λ v1. row_moved (λ v2. done_moved _))

  -- row 41 doesn't look at the size
  colour_transform_offsets_moved : (h : PlainSliceSegmentHeader)
      → Moved s (colour_transform_offsets h) (colour_transform_offsets (with_set_size s h))
  unfolding colour_transform_offsets
  colour_transform_offsets_moved h = row_moved (λ v1. row_moved (λ v2. row_moved (λ v3. done_moved _)))

  -- rows 35 to 40 don't look at the size
  quantiser_moved : (pps : PlainPps) → (h : PlainSliceSegmentHeader)
      → Moved s (quantiser pps h) (quantiser pps (with_set_size s h))
  unfolding quantiser
  quantiser_moved pps h = row_moved (λ v1. row_moved (λ v2. when_moved _ _ (chroma_offsets_moved pps _)))

  -- rows 41 and 42 don't look at the size
  extension_offsets_moved : (pps : PlainPps) → (h : PlainSliceSegmentHeader)
      → Moved s (extension_offsets pps h) (extension_offsets pps (with_set_size s h))
  unfolding extension_offsets
  extension_offsets_moved pps h = then_moved (when_moved _ _ (colour_transform_offsets_moved _))
      (λ h1. row_moved (λ v2. done_moved _))

  -- rows 35 to 42 don't look at the size
  quantisers_moved : (pps : PlainPps) → (h : PlainSliceSegmentHeader)
      → Moved s (quantisers pps h) (quantisers pps (with_set_size s h))
  unfolding quantisers
  quantisers_moved pps h = then_moved (quantiser_moved pps _) (λ h1. extension_offsets_moved pps _)

  -- rows 45 and 46 don't look at the size
  filter_offsets_moved : (h : PlainSliceSegmentHeader) → Moved s (filter_offsets h) (filter_offsets (with_set_size s h))
  unfolding filter_offsets
  filter_offsets_moved h = row_moved (λ v1. row_moved (λ v2. done_moved _))

  -- rows 44 to 46 don't look at the size
  own_deblocking_moved : (h : PlainSliceSegmentHeader) → Moved s (own_deblocking h) (own_deblocking (with_set_size s h))
  unfolding own_deblocking
  own_deblocking_moved h = row_moved (λ v1. when_moved _ _ (filter_offsets_moved _))

  -- row 47 doesn't look at the size
  across_slices_moved : (pps : PlainPps) → (h : PlainSliceSegmentHeader)
      → Moved s (across_slices pps h) (across_slices pps (with_set_size s h))
  unfolding across_slices
  across_slices_moved pps h = row_moved (λ v1. done_moved _)

  -- rows 43 to 47 don't look at the size
  filters_moved : (pps : PlainPps) → (h : PlainSliceSegmentHeader)
      → Moved s (filters pps h) (filters pps (with_set_size s h))
  unfolding filters
  filters_moved pps h =
      row_moved (λ v1. then_moved (when_moved _ _ (own_deblocking_moved _)) (λ h2. across_slices_moved pps _))

  -- rows 49 and 50 don't look at the size
  entry_point_offsets_moved : (h : PlainSliceSegmentHeader)
      → Moved s (entry_point_offsets h) (entry_point_offsets (with_set_size s h))
  unfolding entry_point_offsets
  entry_point_offsets_moved h = row_moved (λ v1. row_moved (λ v2. done_moved _))

  -- rows 48 to 50 don't look at the size
  parallel_parts_moved : (sps : PlainSps) (pps : PlainPps) → (h : PlainSliceSegmentHeader)
      → Moved s (parallel_parts sps pps h) (parallel_parts sps pps (with_set_size s h))
  unfolding parallel_parts
  parallel_parts_moved sps pps h = row_moved (λ v1. when_moved _ _ (entry_point_offsets_moved _))

  -- rows 51 and 52 don't look at the size
  header_extension_moved : (h : PlainSliceSegmentHeader)
      → Moved s (header_extension h) (header_extension (with_set_size s h))
  unfolding header_extension
  header_extension_moved h = row_moved (λ v1. row_moved (λ v2. done_moved _))

  -- rows 48 to 52 don't look at the size
  ending_moved : (sps : PlainSps) (pps : PlainPps) → (h : PlainSliceSegmentHeader)
      → Moved s (ending sps pps h) (ending sps pps (with_set_size s h))
  unfolding ending
  ending_moved sps pps h = then_moved (when_moved _ _ (parallel_parts_moved sps pps _))
      (λ h1. when_moved _ _ (header_extension_moved _))

-- ---- rows with no size counted, and those of the table

-- what is read without a size is read with 0
module _ (sps : PlainSps) where
  -- row 12 but for the size
  own_without : (k : PlainSliceSegmentHeader)
      → Moved 0 (own_short_term_set sps k) (own.own_set_rows sps (with_set_size 0 k))
  unfolding own_short_term_set
  own_without k = record {
    lines = λ z ls has. (has.0, ls, [], has.1, (ap (with_set_size 0) has.2, refl), sym (append-nil ls));
  }

  -- rows 10 to 13 but for the size
  without_size : (h : PlainSliceSegmentHeader)
      → Moved 0 (short_term sps h) (own.short_term_rows sps (with_set_size 0 h))
  unfolding short_term
  without_size h =
      row_moved (λ v1. row_moved (λ v2. either_moved v2 (candidate_short_term_set_moved sps _) (own_without _)))

  -- the size is that of some lines of row 12 or 13
  own_set_size : (c : Bool) (k z : PlainSliceSegmentHeader) (ls : List Line)
      → HasLines (either c (candidate_short_term_set sps k) (own.own_set_rows sps k)) z ls
      → (s : ℕ) × HasLines (either c (candidate_short_term_set sps k) (own_short_term_set sps k)) (with_set_size s z) ls
  unfolding either own_short_term_set
  own_set_size true k z ls has = (z.st_rps_bits, has)
  own_set_size false k z ls has =
      let all : has.1 ≡ ls = sym (has.5 ∙ ap (λ (o : List Line). has.1 ++ o) has.4.1 ∙ append-nil has.1) in (
        length (joined ls),
        (
          has.0,
          subst (HasLines (short_term_ref_pic_set sps.short_term_ref_pic_set sps.num_short_term_ref_pic_sets
              (highest_buffering sps) sps.num_short_term_ref_pic_sets) has.0) all has.3,
          ap (with_set_size (length (joined ls))) has.4.0,
        ),
      )

  -- and what is read with no size has some size in the table
  some_size : (h z : PlainSliceSegmentHeader) (ls : List Line) → HasLines (own.short_term_rows sps h) z ls
      → (s : ℕ) × HasLines (short_term sps h) (with_set_size s z) ls
  unfolding short_term
  some_size h z ls has =
      let second = has.4 in
      let last = own_set_size second.0 _ z second.2 second.4 in
      (last.0, (has.0, has.1, has.2, has.3, (second.0, second.1, second.2, second.3, last.1, second.5), has.5))

-- ---- the same of the whole table

-- lines of the first table are those of the second, of a header with some size
pub record Sized (t u : Table PlainSliceSegmentHeader) : Type 0 where
  pub lines : (z : PlainSliceSegmentHeader) (ls : List Line) → HasLines t z ls
      → (s : ℕ) × HasLines u (with_set_size s z) ls

-- an element, and then a part with a size
size_after : {A : Type 0} {t : Table A} {k m : A → Table PlainSliceSegmentHeader}
    → ((v : A) → Sized (k v) (m v)) → Sized (part t k) (part t m)
size_after f = record {
  lines = λ z ls has.
      let rest = (f has.0).lines z has.2 has.4 in
      (rest.0, (has.0, has.1, has.2, has.3, rest.1, has.5));
}

-- a part with a size, and what comes after it
size_then : {t u : Table PlainSliceSegmentHeader} {k m : PlainSliceSegmentHeader
    → Table PlainSliceSegmentHeader} → Sized t u
    → ((s : ℕ) (h : PlainSliceSegmentHeader) → Moved s (k h) (m (with_set_size s h))) → Sized (part t k) (part u m)
size_then first f = record {
  lines = λ z ls has.
      let sized = first.lines has.0 has.1 has.3 in
      (sized.0, (with_set_size sized.0 has.0, has.1, has.2, sized.1, (f sized.0 has.0).lines z has.2 has.4, has.5));
}

-- a part with a size under a condition
size_when : (c : Bool) (h : PlainSliceSegmentHeader) {t u : Table PlainSliceSegmentHeader} → Sized t u
    → Sized (when c h t) (when c h u)
unfolding when
size_when true h sized = sized
size_when false h sized = record { lines = λ z ls has. (z.st_rps_bits, has) }

module _ (nalu_type : ℕ) (sps : PlainSps) (pps : PlainPps) where
  -- rows 10 to 21 but for the size
  pictures_without : (h : PlainSliceSegmentHeader)
      → Moved 0 (reference_pictures sps h) (own.reference_picture_rows sps (with_set_size 0 h))
  unfolding reference_pictures
  pictures_without h =
      then_moved (without_size sps h)
      (λ h1. then_moved (when_moved _ _ (long_term_moved sps _)) (λ h2. row_moved (λ v3. done_moved _)))

  -- and with some size
  pictures_sized : (h : PlainSliceSegmentHeader) → Sized (own.reference_picture_rows sps h) (reference_pictures sps h)
  unfolding reference_pictures
  pictures_sized h = size_then (record { lines = some_size sps h })
      (λ s h1. then_moved (when_moved _ _ (long_term_moved sps _)) (λ h2. row_moved (λ v3. done_moved _)))

  -- rows 6 to 47 but for the size
  independent_without : (h : PlainSliceSegmentHeader)
      → Moved 0 (independent_segment nalu_type sps pps h) (own.independent_rows nalu_type sps pps (with_set_size 0 h))
  unfolding independent_segment
  independent_without h =
      then_moved (kind_moved sps pps _)
      (λ h1. then_moved (when_moved _ _ (pictures_without _))
      (λ h2. then_moved (adaptive_offset_moved sps _)
      (λ h3. then_moved (when_moved _ _ (prediction_moved sps pps _))
      (λ h4. then_moved (quantisers_moved pps _) (λ h5. filters_moved pps _)))))

  -- and with some size
  independent_sized : (h : PlainSliceSegmentHeader)
      → Sized (own.independent_rows nalu_type sps pps h) (independent_segment nalu_type sps pps h)
  unfolding independent_segment
  independent_sized h =
      size_after (λ h1. size_then (size_when _ _ (pictures_sized _))
      (λ s h2. then_moved (adaptive_offset_moved sps _)
      (λ h3. then_moved (when_moved _ _ (prediction_moved sps pps _))
      (λ h4. then_moved (quantisers_moved pps _) (λ h5. filters_moved pps _)))))

  -- rows 4 to 52 but for the size
  header_without : (h : PlainSliceSegmentHeader)
      → Moved 0 (header_of nalu_type sps pps h) (own.header_rows nalu_type sps pps (with_set_size 0 h))
  unfolding header_of
  header_without h = then_moved (when_moved _ _ (later_segment_moved sps pps _))
      (λ h1. then_moved (when_moved _ _ (independent_without _)) (λ h2. ending_moved sps pps _))

  -- and with some size
  header_sized : (h : PlainSliceSegmentHeader)
      → Sized (own.header_rows nalu_type sps pps h) (header_of nalu_type sps pps h)
  unfolding header_of
  header_sized h = size_after (λ h1. size_then (size_when _ _ (independent_sized _)) (λ s h2. ending_moved sps pps _))

module _ (nalu_type : ℕ) (kept : ℕ → Option ActiveSets) where
  -- rows 1 to 52 but for the size
  elements_without : Moved 0 (elements nalu_type kept) (own.element_rows nalu_type kept)
  unfolding elements
  elements_without = then_moved (beginning_moved nalu_type default_slice_header)
      (λ h1. row_moved (λ sets. header_without nalu_type sets.sps sets.pps h1))

  -- and with some size
  elements_sized : Sized (own.element_rows nalu_type kept) (elements nalu_type kept)
  unfolding elements
  elements_sized = size_after (λ h1. size_after (λ sets. header_sized nalu_type sets.sps sets.pps h1))

  -- what is written of the elements with no size is written of those of the table
  pub sized_written : {x : PlainSliceSegmentHeader} {old new : List Bool}
      → EachFilling (own.element_rows nalu_type kept) old (λ z all. IsSameButSizes z x → all ≡ new)
      → WritesSized (elements nalu_type kept) x old new
  sized_written filling = record {
    written = λ h lines has good same.
        let plain = filling.all (with_set_size 0 h) lines (elements_without.lines h lines has) good in
        let formed = plain.1.formed in
        let sized = elements_sized.lines (with_set_size 0 h) formed.lines formed.has in (
          with_set_size sized.0 h,
          plain.0,
          ap (with_set_size sized.0) same,
          record {
            formed = record {
              lines = formed.lines;
              has = sized.1;
              good = formed.good;
              chosen = formed.chosen;
              parts = formed.parts;
            };
            fewer = plain.1.fewer;
          },
          sym (plain.2 (ap (with_set_size 0) same)),
        );
  }
