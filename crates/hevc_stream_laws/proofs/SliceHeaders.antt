-- Slice segment headers that are read (7.3.6.1, 7.3.6.2).
use Rattle.std.proofs.Common.{◌≡◌, ℕ, ◌+◌, ◌-◌, ◌^◌, ◌≤◌, ◌<◌, Bool, true, false, List, [], ◌∷◌}
use Rattle.std.proofs.Common.{◌++◌, length, Some, refl, arith, pow_pos}
use Rattle.std.specs.Prelude.{All, slice_index_or, slice_set, Option, not, min}
use Rattle.std.proofs.lemmas.List.{length-append}
use Rattle.std.proofs.lemmas.List.Elements.{All-replicate, All-set}
use Rattle.hevc_spec.specs.declared.Row.{Row}
use Rattle.hevc_spec.specs.Table.{Table}
use Rattle.hevc_spec.specs.Rows.{row, when}
use Rattle.hevc_records.specs.ShortTermRefPicSet.{PlainShortTermRefPicSet}
use Rattle.hevc_records.specs.RefPicListModification.{PlainRefPicListModification, default_ref_pic_list_modification}
use Rattle.hevc_records.specs.SliceHeader.{PlainSliceSegmentHeader, default_slice_header}
use Rattle.hevc_tables.specs.SpsTable.{highest_buffering}
use Rattle.hevc_tables.specs.RefPicListModificationTable.{list_entry, list_entries, modification_l0}
use Rattle.hevc_tables.specs.RefPicListModificationTable.{modification_l1}
use Rattle.hevc_tables.specs.RefPicListModificationTable.{ref_pic_list_modification}
use Rattle.hevc_tables.specs.SliceHeaderTable.{ActiveSets, beginning, later_segment, kind, lsb_bits}
use Rattle.hevc_tables.specs.SliceHeaderTable.{own_short_term_set, candidate_short_term_set}
use Rattle.hevc_tables.specs.SliceHeaderTable.{short_term, long_term_counts}
use Rattle.hevc_tables.specs.SliceHeaderTable.{candidate_long_term_picture, other_long_term_picture}
use Rattle.hevc_tables.specs.SliceHeaderTable.{msb_cycles, long_term_picture, long_term_pictures}
use Rattle.hevc_tables.specs.SliceHeaderTable.{long_term, reference_pictures, adaptive_offset}
use Rattle.hevc_tables.specs.SliceHeaderTable.{own_active_counts, with_default_active_counts}
use Rattle.hevc_tables.specs.SliceHeaderTable.{active_counts, list_modification, with_pictures}
use Rattle.hevc_tables.specs.SliceHeaderTable.{has_list_modification, reference_lists, motion}
use Rattle.hevc_tables.specs.SliceHeaderTable.{weights, prediction, chroma_offsets}
use Rattle.hevc_tables.specs.SliceHeaderTable.{colour_transform_offsets, quantiser}
use Rattle.hevc_tables.specs.SliceHeaderTable.{extension_offsets, quantisers, filter_offsets}
use Rattle.hevc_tables.specs.SliceHeaderTable.{own_deblocking, across_slices, filters}
use Rattle.hevc_tables.specs.SliceHeaderTable.{independent_segment, entry_point_offsets}
use Rattle.hevc_tables.specs.SliceHeaderTable.{parallel_parts, header_extension, ending}
use Rattle.hevc_tables.specs.SliceHeaderTable.{with_defaults, header_of, elements, aligned}
use Rattle.hevc_tables.specs.SliceHeaderTable.{with_sizes, slice_segment_header}
use Rattle.hevc_stream_laws.proofs.Gives.{Gives, free, weaker, of_done, of_part, of_sized, of_ue}
use Rattle.hevc_stream_laws.proofs.Gives.{of_bits, of_when, of_either, of_repeat}
use Rattle.hevc_stream_laws.proofs.ShortTermSets.{IsSet, default_is_set, set_gives, at_or}
use Rattle.hevc_stream_laws.proofs.SequenceSets.{IsSequenceSet, buffering_bound}
use Rattle.hevc_stream_laws.proofs.PictureSets.{of_named}

-- what a header's rows of order counts, references and list lengths give
pub record Own (bits count lsb idx : ℕ) (set : PlainShortTermRefPicSet) (all_lsbs : List ℕ)
    (of_sequence others l0 l1 : ℕ) : Type 0 where
  pub low : lsb < 2 ^ bits
  pub index : idx ≤ count
  pub own_set : IsSet set
  pub lsbs : All (λ n. n < 2 ^ bits) all_lsbs
  pub few : of_sequence + others ≤ 16
  pub list0 : l0 ≤ 14
  pub list1 : l1 ≤ 14

-- a list that is changed has an entry for each of its places
pub record Changed (l0 l1 : ℕ) (m : PlainRefPicListModification) : Type 0 where
  pub list0 : m.ref_pic_list_modification_flag_l0 ≡ true → length m.list_entry_l0 ≡ l0 + 1
  pub list1 : m.ref_pic_list_modification_flag_l1 ≡ true → length m.list_entry_l1 ≡ l1 + 1

-- sets that a header may make active
pub record AreSets (sets : ActiveSets) : Type 0 where
  pub sequence_set : IsSequenceSet sets.sps
  pub list0 : sets.pps.num_ref_idx_l0_default_active_minus1 ≤ 14
  pub list1 : sets.pps.num_ref_idx_l1_default_active_minus1 ≤ 14

is_not : (b : Bool) → not b ≡ true → b ≡ false
is_not true e = absurd cc
is_not false e = refl

-- ---- table 15

entries_give : (r : Row) (total count : ℕ) → Gives (list_entries r total count) (λ es. length es ≡ count)
unfolding list_entries list_entry
entries_give r total count =
    of_repeat (λ k (es : List ℕ). length es ≡ k) (list_entry r total) count [] refl
    (λ k es below is. free (λ (fs : List ℕ). length fs ≡ k + 1)
    (λ e. of_done (λ (fs : List ℕ). length fs ≡ k + 1) (es ++ e ∷ []) (simp length-append (omega arith))))

optional_entries_give : (r : Row) (total count : ℕ) (changed : Bool)
    → Gives (when changed [] (list_entries r total count)) (λ es. changed ≡ true → length es ≡ count)
optional_entries_give r total count changed =
    of_when (λ (es : List ℕ). changed ≡ true → length es ≡ count) changed [] _
    (λ _. weaker (λ (es : List ℕ). changed ≡ true → length es ≡ count)
    (λ es is _. is) (entries_give r total count)) (λ off on. absurd cc)

changed_l0_gives : (total l0 l1 : ℕ)
    → Gives (modification_l0 total l0 default_ref_pic_list_modification) (Changed l0 l1)
unfolding modification_l0
changed_l0_gives total l0 l1 =
    free (Changed l0 l1) (λ b. of_part _ (Changed l0 l1) (optional_entries_give (row 15 2) total (l0 + 1) b)
    (λ es is. of_done (Changed l0 l1) _ (record { list0 = is; list1 = λ on. absurd cc })))

changed_l1_gives : (total l0 l1 : ℕ) (m : PlainRefPicListModification) → Changed l0 l1 m
    → Gives (modification_l1 total l1 m) (Changed l0 l1)
unfolding modification_l1
changed_l1_gives total l0 l1 m h =
    free (Changed l0 l1) (λ b. of_part _ (Changed l0 l1) (optional_entries_give (row 15 4) total (l1 + 1) b)
    (λ es is. of_done (Changed l0 l1) _ (record { list0 = h.list0; list1 = is })))

changes_give : (b : Bool) (total l0 l1 : ℕ) → Gives (ref_pic_list_modification b total l0 l1) (Changed l0 l1)
unfolding ref_pic_list_modification
changes_give b total l0 l1 =
    of_part _ (Changed l0 l1) (changed_l0_gives total l0 l1)
    (λ m h. of_when (Changed l0 l1) b m (modification_l1 total l1 m) (λ _. changed_l1_gives total l0 l1 m h) (λ _. h))

none_changed : (l0 l1 : ℕ) → Changed l0 l1 default_ref_pic_list_modification
none_changed l0 l1 = record { list0 = λ on. absurd cc; list1 = λ on. absurd cc }

-- ---- table 14

module _ (kept : ℕ → Option ActiveSets) (sets : ActiveSets) (are : AreSets sets) where
  -- what holds throughout: the sets are those that the header makes active, and a first segment is independent
  abbrev Base : PlainSliceSegmentHeader → Type 0
  Base h =
      Own (lsb_bits sets.sps) sets.sps.num_short_term_ref_pic_sets h.pic_order_cnt_lsb h.curr_rps_idx
      h.short_term_ref_pic_set h.poc_lsb_lt h.num_long_term_sps h.num_long_term_pics
      h.num_ref_idx_l0_active_minus1 h.num_ref_idx_l1_active_minus1
      × (kept h.pic_parameter_set_id ≡ Some sets)
      × (h.first_slice_segment_in_pic_flag ≡ true → h.dependent_slice_segment_flag ≡ false)

  -- before the lists
  abbrev A : PlainSliceSegmentHeader → Type 0
  A h = Base h × (h.ref_pic_list_modification ≡ default_ref_pic_list_modification)

  -- after them
  abbrev B : PlainSliceSegmentHeader → Type 0
  B h = Base h × Changed h.num_ref_idx_l0_active_minus1 h.num_ref_idx_l1_active_minus1 h.ref_pic_list_modification

  behind : (h : PlainSliceSegmentHeader) → A h → B h
  behind h a = (a.0, rw a.1 (none_changed h.num_ref_idx_l0_active_minus1 h.num_ref_idx_l1_active_minus1))

  later_gives : (h : PlainSliceSegmentHeader) → h.first_slice_segment_in_pic_flag ≡ false → A h
      → Gives (later_segment sets.sps sets.pps h) A
  unfolding later_segment
  later_gives h not_first a = free A (λ d. free A (λ address. of_done A _ ((a.0.0, a.0.1, λ first. absurd cc), a.1)))

  kind_gives : (h : PlainSliceSegmentHeader) → A h → Gives (kind sets.sps sets.pps h) A
  unfolding kind
  kind_gives h a = free A (λ x. free A (λ y. free A (λ z. free A (λ w. of_done A _ a))))

  own_set_gives : (h : PlainSliceSegmentHeader) → A h
      → h.curr_rps_idx ≤ sets.sps.num_short_term_ref_pic_sets → Gives (own_short_term_set sets.sps h) A
  unfolding own_short_term_set
  own_set_gives h a idx =
      of_sized _ A (set_gives sets.sps.short_term_ref_pic_set sets.sps.num_short_term_ref_pic_sets
      (highest_buffering sets.sps) sets.sps.num_short_term_ref_pic_sets are.sequence_set.1.sets
      (buffering_bound sets.sps are.sequence_set.0))
      (λ set size is. (
        (
          record {
            low = a.0.0.low;
            index = a.0.0.index;
            own_set = is;
            lsbs = a.0.0.lsbs;
            few = a.0.0.few;
            list0 = a.0.0.list0;
            list1 = a.0.0.list1;
          },
          a.0.1,
          a.0.2,
        ),
        a.1,
      ))

  candidate_gives : (h : PlainSliceSegmentHeader) → A h → Gives (candidate_short_term_set sets.sps h) A
  unfolding candidate_short_term_set
  candidate_gives h a =
      of_part _ A (of_when (λ (idx : ℕ). idx ≤ sets.sps.num_short_term_ref_pic_sets) _ 0 _
      (λ _. weaker (λ (idx : ℕ). idx ≤ sets.sps.num_short_term_ref_pic_sets)
      (λ idx bound. omega (arith, bound.1))
      (of_bits (row 14 13) _ 0 (sets.sps.num_short_term_ref_pic_sets - 1))) (λ _. omega arith))
      (λ idx bound. of_done A _ (
        (
          record {
            low = a.0.0.low;
            index = bound;
            own_set = a.0.0.own_set;
            lsbs = a.0.0.lsbs;
            few = a.0.0.few;
            list0 = a.0.0.list0;
            list1 = a.0.0.list1;
          },
          a.0.1,
          a.0.2,
        ),
        a.1,
      ))

  short_term_gives : (h : PlainSliceSegmentHeader) → A h → Gives (short_term sets.sps h) A
  unfolding short_term
  short_term_gives h a =
      of_part _ A (of_bits (row 14 10) (lsb_bits sets.sps) 0 (2 ^ lsb_bits sets.sps - 1)) (λ lsb bound. free A (λ flag.
      let with_lsb : A (record h { pic_order_cnt_lsb = lsb; short_term_ref_pic_set_sps_flag = flag }) = (
        (
          record {
            low = omega (arith, bound.1, pow_pos (lsb_bits sets.sps));
            index = a.0.0.index;
            own_set = a.0.0.own_set;
            lsbs = a.0.0.lsbs;
            few = a.0.0.few;
            list0 = a.0.0.list0;
            list1 = a.0.0.list1;
          },
          a.0.1,
          a.0.2,
        ),
        a.1,
      ) in
      of_either A flag _ _ (λ _. candidate_gives _ with_lsb) (λ _. own_set_gives _ with_lsb a.0.0.index)))

  counts_give : (h : PlainSliceSegmentHeader) → A h → Gives (long_term_counts sets.sps h) A
  unfolding long_term_counts
  counts_give h a =
      of_part _ A (of_when (λ (n : ℕ). n ≤ 16) _ 0 _
      (λ _. weaker (λ (n : ℕ). n ≤ 16)
      (λ n bound. omega (arith, bound.1))
      (of_ue (row 14 14) 0 (min 16 sets.sps.num_long_term_ref_pics_sps))) (λ _. omega arith)) (λ n bound.
      of_part _ A (of_ue (row 14 15) 0 (16 - n)) (λ m room.
      of_done A _ (
        (
          record {
            low = a.0.0.low;
            index = a.0.0.index;
            own_set = a.0.0.own_set;
            lsbs = a.0.0.lsbs;
            few = omega (arith, bound, room.1);
            list0 = a.0.0.list0;
            list1 = a.0.0.list1;
          },
          a.0.1,
          a.0.2,
        ),
        a.1,
      )))

  with_lsbs : (h : PlainSliceSegmentHeader) (i lsb : ℕ) → A h → lsb < 2 ^ lsb_bits sets.sps
      → Own (lsb_bits sets.sps) sets.sps.num_short_term_ref_pic_sets h.pic_order_cnt_lsb h.curr_rps_idx
      h.short_term_ref_pic_set (slice_set h.poc_lsb_lt i lsb) h.num_long_term_sps h.num_long_term_pics
      h.num_ref_idx_l0_active_minus1 h.num_ref_idx_l1_active_minus1
  with_lsbs h i lsb a low = record {
    low = a.0.0.low;
    index = a.0.0.index;
    own_set = a.0.0.own_set;
    lsbs = All-set (λ (n : ℕ). n < 2 ^ lsb_bits sets.sps) h.poc_lsb_lt i lsb low a.0.0.lsbs;
    few = a.0.0.few;
    list0 = a.0.0.list0;
    list1 = a.0.0.list1;
  }

  candidate_picture_gives : (i : ℕ) (h : PlainSliceSegmentHeader) → A h
      → Gives (candidate_long_term_picture sets.sps i h) A
  unfolding candidate_long_term_picture
  candidate_picture_gives i h a =
      free A (λ idx. of_done A _ (
        (
          with_lsbs h i (slice_index_or sets.sps.lt_ref_pic_poc_lsb_sps idx 0) a
              (at_or (λ (n : ℕ). n < 2 ^ lsb_bits sets.sps) sets.sps.lt_ref_pic_poc_lsb_sps idx 0
              are.sequence_set.1.lsbs (pow_pos (lsb_bits sets.sps))),
          a.0.1,
          a.0.2,
        ),
        a.1,
      ))

  other_picture_gives : (i : ℕ) (h : PlainSliceSegmentHeader) → A h → Gives (other_long_term_picture sets.sps i h) A
  unfolding other_long_term_picture
  other_picture_gives i h a =
      of_part _ A (of_bits (row 14 17) (lsb_bits sets.sps) 0 (2 ^ lsb_bits sets.sps - 1)) (λ lsb bound. free A (λ used.
      of_done A _ ((with_lsbs h i lsb a (omega (arith, bound.1, pow_pos (lsb_bits sets.sps))), a.0.1, a.0.2), a.1)))

  cycles_give : (i : ℕ) (h : PlainSliceSegmentHeader) → A h → Gives (msb_cycles sets.sps i h) A
  unfolding msb_cycles
  cycles_give i h a = free A (λ present. free A (λ cycles. of_done A _ a))

  picture_gives : (i : ℕ) (h : PlainSliceSegmentHeader) → A h → Gives (long_term_picture sets.sps i h) A
  unfolding long_term_picture
  picture_gives i h a =
      of_part _ A (of_either A _ _ _ (λ _. candidate_picture_gives i h a) (λ _. other_picture_gives i h a))
      (λ g b. cycles_give i g b)

  pictures_give : (h : PlainSliceSegmentHeader) → A h → Gives (long_term_pictures sets.sps h) A
  unfolding long_term_pictures
  pictures_give h a =
      of_repeat (λ k. A) (long_term_picture sets.sps) (h.num_long_term_sps + h.num_long_term_pics) h a
      (λ k x below b. picture_gives k x b)

  long_term_gives : (h : PlainSliceSegmentHeader) → A h → Gives (long_term sets.sps h) A
  unfolding long_term
  long_term_gives h a = of_part _ A (counts_give h a) (λ g b. pictures_give g b)

  references_give : (h : PlainSliceSegmentHeader) → A h → Gives (reference_pictures sets.sps h) A
  unfolding reference_pictures
  references_give h a =
      of_part _ A (short_term_gives h a)
      (λ g b. of_part _ A (of_when A sets.sps.long_term_ref_pics_present_flag g (long_term sets.sps g)
      (λ _. long_term_gives g b) (λ _. b)) (λ f c. free A (λ x. of_done A _ c)))

  offsets_give : (h : PlainSliceSegmentHeader) → A h → Gives (adaptive_offset sets.sps h) A
  unfolding adaptive_offset
  offsets_give h a = free A (λ x. free A (λ y. of_done A _ a))

  with_counts : (h : PlainSliceSegmentHeader) (l0 l1 : ℕ) → A h → l0 ≤ 14 → l1 ≤ 14
      → A (record h { num_ref_idx_l0_active_minus1 = l0; num_ref_idx_l1_active_minus1 = l1 })
  with_counts h l0 l1 a m n = (
    (
      record {
        low = a.0.0.low;
        index = a.0.0.index;
        own_set = a.0.0.own_set;
        lsbs = a.0.0.lsbs;
        few = a.0.0.few;
        list0 = m;
        list1 = n;
      },
      a.0.1,
      a.0.2,
    ),
    a.1,
  )

  own_counts_give : (h : PlainSliceSegmentHeader) → A h → Gives (own_active_counts h) A
  unfolding own_active_counts
  own_counts_give h a =
      of_part _ A (of_ue (row 14 25) 0 14)
      (λ l0 m. of_part _ A (of_when (λ (n : ℕ). n ≤ 14) _ 0 _
      (λ _. weaker (λ (n : ℕ). n ≤ 14) (λ n bound. bound.1) (of_ue (row 14 26) 0 14)) (λ _. omega arith)) (λ l1 n.
      of_done A _ (with_counts h l0 l1 a m.1 n)))

  default_counts : (h : PlainSliceSegmentHeader) → A h → A (with_default_active_counts sets.pps h)
  unfolding with_default_active_counts
  default_counts h a = with_counts h _ _ a are.list0 are.list1

  active_counts_give : (h : PlainSliceSegmentHeader) → A h → Gives (active_counts sets.pps h) A
  unfolding active_counts
  active_counts_give h a =
      free A (λ b. of_either A b _ _ (λ _. own_counts_give _ a) (λ _. of_done A _ (default_counts _ a)))

  modification_gives : (h : PlainSliceSegmentHeader) → A h → Gives (list_modification h) B
  unfolding list_modification
  modification_gives h a =
      of_part _ B (changes_give _ h.num_pic_total_curr h.num_ref_idx_l0_active_minus1
      h.num_ref_idx_l1_active_minus1) (λ m c. of_done B _ (a.0, c))

  with_pictures_is : (h : PlainSliceSegmentHeader) → A h → A (with_pictures sets.sps sets.pps h)
  unfolding with_pictures
  with_pictures_is h a = (a.0, refl)

  lists_give : (h : PlainSliceSegmentHeader) → A h → Gives (reference_lists sets.sps sets.pps h) B
  unfolding reference_lists
  lists_give h a =
      of_part _ B (active_counts_give _ (with_pictures_is h a))
      (λ g b. of_when B (has_list_modification sets.pps g) g (list_modification g)
      (λ _. modification_gives g b) (λ _. behind g b))

  motion_gives : (h : PlainSliceSegmentHeader) → B h → Gives (motion sets.pps h) B
  unfolding motion
  motion_gives h b = free B (λ x. free B (λ y. free B (λ z. free B (λ w. of_done B _ b))))

  weights_give : (h : PlainSliceSegmentHeader) → B h → Gives (weights sets.sps sets.pps h) B
  unfolding weights
  weights_give h b = free B (λ x. free B (λ y. free B (λ z. of_done B _ b)))

  prediction_gives : (h : PlainSliceSegmentHeader) → A h → Gives (prediction sets.sps sets.pps h) B
  unfolding prediction
  prediction_gives h a = of_part _ B (lists_give h a) (λ g b. of_part _ B (motion_gives g b) (λ f c. weights_give f c))

  chroma_give : (h : PlainSliceSegmentHeader) → B h → Gives (chroma_offsets sets.pps h) B
  unfolding chroma_offsets
  chroma_give h b = free B (λ x. free B (λ y. of_done B _ b))

  colours_give : (h : PlainSliceSegmentHeader) → B h → Gives (colour_transform_offsets h) B
  unfolding colour_transform_offsets
  colours_give h b = free B (λ x. free B (λ y. free B (λ z. of_done B _ b)))

  quantiser_gives : (h : PlainSliceSegmentHeader) → B h → Gives (quantiser sets.pps h) B
  unfolding quantiser
  quantiser_gives h b = free B (λ x. free B (λ y. of_when B _ _ _ (λ _. chroma_give _ b) (λ _. b)))

  extension_offsets_give : (h : PlainSliceSegmentHeader) → B h → Gives (extension_offsets sets.pps h) B
  unfolding extension_offsets
  extension_offsets_give h b =
      of_part _ B (of_when B _ h (colour_transform_offsets h) (λ _. colours_give h b) (λ _. b))
      (λ g c. free B (λ x. of_done B _ c))

  quantisers_give : (h : PlainSliceSegmentHeader) → B h → Gives (quantisers sets.pps h) B
  unfolding quantisers
  quantisers_give h b = of_part _ B (quantiser_gives h b) (λ g c. extension_offsets_give g c)

  filter_offsets_give : (h : PlainSliceSegmentHeader) → B h → Gives (filter_offsets h) B
  unfolding filter_offsets
  filter_offsets_give h b = free B (λ x. free B (λ y. of_done B _ b))

  deblocking_gives : (h : PlainSliceSegmentHeader) → B h → Gives (own_deblocking h) B
  unfolding own_deblocking
  deblocking_gives h b = free B (λ x. of_when B _ _ _ (λ _. filter_offsets_give _ b) (λ _. b))

  across_gives : (h : PlainSliceSegmentHeader) → B h → Gives (across_slices sets.pps h) B
  unfolding across_slices
  across_gives h b = free B (λ x. of_done B _ b)

  filters_give : (h : PlainSliceSegmentHeader) → B h → Gives (filters sets.pps h) B
  unfolding filters
  filters_give h b =
      free B (λ x. of_part _ B (of_when B x _ _ (λ _. deblocking_gives _ b) (λ _. b)) (λ g c. across_gives g c))

  independent_gives : (t : ℕ) (h : PlainSliceSegmentHeader) → A h → Gives (independent_segment t sets.sps sets.pps h) B
  unfolding independent_segment
  independent_gives t h a =
      of_part _ B (kind_gives h a)
      (λ g b. of_part _ B (of_when A _ g (reference_pictures sets.sps g) (λ _. references_give g b) (λ _. b)) (λ f c.
      of_part _ B (offsets_give f c)
      (λ e d. of_part _ B (of_when B _ e (prediction sets.sps sets.pps e) (λ _. prediction_gives e d)
      (λ _. behind e d)) (λ i k.
      of_part _ B (quantisers_give i k) (λ j l. filters_give j l)))))

  points_give : (h : PlainSliceSegmentHeader) → B h → Gives (entry_point_offsets h) B
  unfolding entry_point_offsets
  points_give h b = free B (λ x. free B (λ y. of_done B _ b))

  parallel_gives : (h : PlainSliceSegmentHeader) → B h → Gives (parallel_parts sets.sps sets.pps h) B
  unfolding parallel_parts
  parallel_gives h b = free B (λ x. of_when B _ _ _ (λ _. points_give _ b) (λ _. b))

  extension_gives : (h : PlainSliceSegmentHeader) → B h → Gives (header_extension h) B
  unfolding header_extension
  extension_gives h b = free B (λ x. free B (λ y. of_done B _ b))

  ending_gives : (h : PlainSliceSegmentHeader) → B h → Gives (ending sets.sps sets.pps h) B
  unfolding ending
  ending_gives h b =
      of_part _ B (of_when B _ h (parallel_parts sets.sps sets.pps h) (λ _. parallel_gives h b) (λ _. b))
      (λ g c. of_when B _ g (header_extension g) (λ _. extension_gives g c) (λ _. c))

  -- rows 4 to 52, where rows 1 to 3 have told these three
  header_gives : (t : ℕ) (first no_output : Bool) (id : ℕ) → kept id ≡ Some sets
      → Gives (header_of t sets.sps sets.pps
      (record default_slice_header {
        first_slice_segment_in_pic_flag = first;
        no_output_of_prior_pics_flag = no_output;
        pic_parameter_set_id = id;
      })) B
  unfolding header_of
  header_gives t first no_output id names =
      let begun : PlainSliceSegmentHeader =
      with_defaults sets.sps sets.pps
      (record default_slice_header {
        first_slice_segment_in_pic_flag = first;
        no_output_of_prior_pics_flag = no_output;
        pic_parameter_set_id = id;
      }) in
      let a : A begun = (
        (
          record {
            low = pow_pos (lsb_bits sets.sps);
            index = omega arith;
            own_set = default_is_set;
            lsbs = All-replicate (λ (n : ℕ). n < 2 ^ lsb_bits sets.sps) 16 0 (pow_pos (lsb_bits sets.sps));
            few = omega arith;
            list0 = omega arith;
            list1 = omega arith;
          },
          names,
          λ _. refl,
        ),
        refl,
      ) in
      of_part _ B (of_when A (not first) begun (later_segment sets.sps sets.pps begun)
      (λ later. later_gives begun (is_not first later) a) (λ _. a)) (λ g b.
      of_part _ B (of_when B (not g.dependent_slice_segment_flag) g
      (independent_segment t sets.sps sets.pps g) (λ _. independent_gives t g b) (λ _. behind g b))
      (λ f c. ending_gives f c))

-- the header of a slice that is read: the sets that it makes active, and what holds of its elements
pub record IsHeader (kept : ℕ → Option ActiveSets) (h : PlainSliceSegmentHeader) : Type 0 where
  pub sets : ActiveSets
  pub are : AreSets sets
  pub names : kept h.pic_parameter_set_id ≡ Some sets
  pub own : Own (lsb_bits sets.sps) sets.sps.num_short_term_ref_pic_sets h.pic_order_cnt_lsb h.curr_rps_idx
      h.short_term_ref_pic_set h.poc_lsb_lt h.num_long_term_sps h.num_long_term_pics
      h.num_ref_idx_l0_active_minus1 h.num_ref_idx_l1_active_minus1
  pub first : h.first_slice_segment_in_pic_flag ≡ true → h.dependent_slice_segment_flag ≡ false
  pub changed : Changed h.num_ref_idx_l0_active_minus1 h.num_ref_idx_l1_active_minus1 h.ref_pic_list_modification

record Begun (h : PlainSliceSegmentHeader) : Type 0 where
  first : Bool
  no_output : Bool
  id : ℕ
  is : h ≡ record default_slice_header {
    first_slice_segment_in_pic_flag = first;
    no_output_of_prior_pics_flag = no_output;
    pic_parameter_set_id = id;
  }

beginning_gives : (t : ℕ) → Gives (beginning t default_slice_header) Begun
unfolding beginning
beginning_gives t =
    free Begun (λ a. free Begun
    (λ b. free Begun (λ c. of_done Begun _ (record { first = a; no_output = b; id = c; is = refl }))))

aligned_gives : {A : Type 0} (P : A → Type 0) (t : Table A) → Gives t P → Gives (aligned t) P
unfolding aligned
aligned_gives P t g =
    of_part _ P (of_sized _ (λ h. P h.value) g (λ x n p. p)) (λ h p. free P (λ a. free P (λ b. of_done P h.value p)))

module _ (kept : ℕ → Option ActiveSets) (are : (id : ℕ) (sets : ActiveSets) → kept id ≡ Some sets → AreSets sets) where
  elements_give : (t : ℕ) → Gives (elements t kept) (IsHeader kept)
  unfolding elements
  elements_give t =
      of_part _ (IsHeader kept) (beginning_gives t)
      (λ h begun. rw begun.is (of_part _ (IsHeader kept) (of_named (row 14 3) begun.id (kept begun.id)) (λ sets names.
      weaker (IsHeader kept)
      (λ g b. record {
        sets = sets;
        are = are begun.id sets names;
        names = b.0.1;
        own = b.0.0;
        first = b.0.2;
        changed = b.1;
      }) (header_gives kept sets (are begun.id sets names) t begun.first begun.no_output begun.id names))))

  -- table 14
  pub header_is : (t : ℕ) (bytes : List ℕ) → Gives (slice_segment_header t bytes kept) (IsHeader kept)
  unfolding slice_segment_header with_sizes
  header_is t bytes =
      of_sized _ (IsHeader kept) (aligned_gives (IsHeader kept) (elements t kept) (elements_give t))
      (λ h n i. record {
        sets = i.sets;
        are = i.are;
        names = i.names;
        own = i.own;
        first = i.first;
        changed = i.changed;
      })
