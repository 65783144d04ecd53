-- How many bits a header takes, and that its lists are in order and its short-term set is a current one.
use Rattle.std.proofs.Common.{◌≡◌, ℕ, zero, suc, ◌+◌, ◌-◌, ◌*◌, ◌≤◌, ◌^◌, Bool, true, false, List}
use Rattle.std.proofs.Common.{[], ◌∷◌, slice_index_or, length, ℤ, refl, sym, subst, ◌∙◌, arith}
use Rattle.std.specs.Prelude.{◌==◌, ◌&&◌, ◌||◌, not, nat_lt, min}
use mathlib.Core.Bool.{true≢false}
use Rattle.std.proofs.lemmas.Bool.Decides.{nat_tests}
use Rattle.std.proofs.lemmas.Grind.{common_steps}
use Rattle.hevc_records.specs.Bounds.{AtMost}
use Rattle.hevc_records.specs.Pps.{PlainPps}
use Rattle.hevc_records.specs.PredWeightTable.{default_pred_weight_table}
use Rattle.hevc_records.specs.SliceHeader.{PlainSliceSegmentHeader, default_slice_header}
use Rattle.hevc_records.specs.Sps.{PlainSps}
use Rattle.hevc_spec.specs.UnitTypes.{is_irap, is_idr}
use Rattle.hevc_spec.specs.declared.Row.{Row}
use Rattle.hevc_spec.specs.Bits.{u}
use Rattle.hevc_spec.specs.Table.{gives, read}
use Rattle.hevc_spec.specs.Rows.{row, flag_row, zero_row, bits_row, when, either}
use Rattle.hevc_tables.specs.MathFunctions.{ceil_log2}
use Rattle.hevc_tables.specs.SliceTypes.{is_b, is_i}
use Rattle.hevc_tables.specs.SpsTable.{highest_buffering}
use Rattle.hevc_tables.specs.WeightedPredictionTable.{has_chroma}
use Rattle.hevc_tables.specs.SliceHeaderTable as table
use Rattle.hevc_sequence_set.specs.declared.sps.Sps.{Sps}
use Rattle.hevc_sequence_set.specs.Sps.{plain_sps}
use Rattle.hevc_picture_slice.specs.declared.pps.Pps.{Pps}
use Rattle.hevc_picture_slice.specs.Pps.{plain_pps}
use Rattle.hevc_slice_references.proofs.SetSize.{HaveFew, have_few, set_takes}
use Rattle.hevc_slice_references.proofs.Sizes.{Takes, Any, UpTo, takes_element, takes_done}
use Rattle.hevc_slice_references.proofs.Sizes.{takes_part, takes_more, takes_any, takes_sized}
use Rattle.hevc_slice_references.proofs.Sizes.{takes_when, takes_either, takes_repeat, takes_flag}
use Rattle.hevc_slice_references.proofs.Sizes.{takes_bits, takes_ue, takes_se, takes_skip}
use Rattle.hevc_slice_references.proofs.Sizes.{takes_check}
use Rattle.hevc_elements.specs.Scan.{Position, left, gave, scanned}
use Rattle.hevc_elements.proofs.ScanLaws.{given_is_read}
use Rattle.hevc_slice_header.specs.CurrentSet.{IsCurrent}
use Rattle.hevc_slice_header.specs.Lists.{HasLists}
use Rattle.hevc_slice_header.proofs.PartSizes.{few_index_bits, index_takes, modification_takes, weights_take}
use Rattle.hevc_slice_header.proofs.PictureSizes.{few_parts}

-- what the sizes rest on
pub record AreSmall (sps : PlainSps) (pps : PlainPps) : Type 0 where
  pub extra : pps.num_extra_slice_header_bits ≤ 255
  pub lsb : table.lsb_bits sps ≤ 16
  pub buffering : highest_buffering sps ≤ 16
  pub sets : HaveFew sps.short_term_ref_pic_set
  pub l0 : pps.num_ref_idx_l0_default_active_minus1 ≤ 14
  pub l1 : pps.num_ref_idx_l1_default_active_minus1 ≤ 14
  pub parts : table.most_entry_points sps pps ≤ 2 ^ 20

at_most_any : (bound : ℕ) (xs : List ℕ) (k : ℕ) → AtMost bound xs → slice_index_or xs k 0 ≤ bound
at_most_any bound [] k h = grind arith
at_most_any bound (x ∷ xs) zero h = grind (arith, common_steps, h)
at_most_any bound (x ∷ xs) (suc k) h = at_most_any bound xs k (grind (arith, common_steps, h))

pub are_small : (s : Sps) (p : Pps) → p.num_extra_slice_header_bits ≤ 255 → AreSmall (plain_sps s) (plain_pps p)
are_small s p few = record {
  extra = few;
  lsb = grind (arith, s.order_count_bits);
  buffering = at_most_any 16 s.max_dec_pic_buffering_minus1 s.max_sub_layers_minus1 s.buffering;
  sets = have_few s.short_term_ref_pic_set;
  l0 = p.active_l0;
  l1 = p.active_l1;
  parts = grind (arith, few_parts s p);
}

-- lists in order, and no short-term set that is named
abbrev Begins : PlainSliceSegmentHeader → Type 0
Begins h = HasLists h × (h.short_term_ref_pic_set_sps_flag ≡ false)

-- the header begins with lists whose order isn't told
default_lists : Begins default_slice_header
default_lists = (record { l0 = λ t. absurd (true≢false (sym t)); l1 = λ t. absurd (true≢false (sym t)) }, refl)

-- rows 1 to 3
beginning_takes : (nal_unit_type : ℕ) (h : PlainSliceSegmentHeader) → Begins h
    → Takes 65 Begins (table.beginning nal_unit_type h)
unfolding table.beginning
beginning_takes t h fit =
    takes_part 1 64 (takes_flag (row 14 1))
    (λ a p. takes_part 1 63 (takes_when (is_irap t) false tt (takes_flag (row 14 2)))
    (λ b q. takes_part 63 0 (takes_ue (row 14 3) 0 63) (λ c r. takes_done fit)))

-- both lists have few active places
abbrev pub HaveActive : PlainSliceSegmentHeader → Type 0
HaveActive h = (h.num_ref_idx_l0_active_minus1 ≤ 14) × (h.num_ref_idx_l1_active_minus1 ≤ 14)

-- The order of the lists isn't told.
abbrev pub IsUntold : PlainSliceSegmentHeader → Type 0
IsUntold h = (h.ref_pic_list_modification.ref_pic_list_modification_flag_l0 ≡ false)
    × (h.ref_pic_list_modification.ref_pic_list_modification_flag_l1 ≡ false)

untold_lists : (h : PlainSliceSegmentHeader) → IsUntold h → HasLists h
untold_lists h none = record {
  l0 = λ t. absurd (true≢false (sym t ∙ none.0));
  l1 = λ t. absurd (true≢false (sym t ∙ none.1));
}

-- the id of the picture set, and as yet no short-term set that is named, of so many
pub record IsUnnamed (id count : ℕ) (pic_parameter_set_id : ℕ) (names_one : Bool) (curr_rps_idx : ℕ) : Type 0 where
  pub same : pic_parameter_set_id ≡ id
  pub none : names_one ≡ false
  pub own : curr_rps_idx ≡ count

-- the id of the picture set, and the current short-term set
pub record IsNamed (id count : ℕ) (pic_parameter_set_id : ℕ) (names_one : Bool) (curr_rps_idx : ℕ) : Type 0 where
  pub same : pic_parameter_set_id ≡ id
  pub current : IsCurrent count names_one curr_rps_idx

-- what a header is before its short-term set, and after it
abbrev pub IsFresh : ℕ → ℕ → PlainSliceSegmentHeader → Type 0
IsFresh id count h =
    HasLists h × IsUnnamed id count h.pic_parameter_set_id h.short_term_ref_pic_set_sps_flag h.curr_rps_idx

abbrev pub IsWhole : ℕ → ℕ → PlainSliceSegmentHeader → Type 0
IsWhole id count h =
    HasLists h × IsNamed id count h.pic_parameter_set_id h.short_term_ref_pic_set_sps_flag h.curr_rps_idx

-- the header's own set is the current one
own_current : (id count pic_parameter_set_id : ℕ) (names_one : Bool) (curr_rps_idx : ℕ)
    → IsUnnamed id count pic_parameter_set_id names_one curr_rps_idx
    → IsNamed id count pic_parameter_set_id names_one curr_rps_idx
own_current id count pic_parameter_set_id names_one curr_rps_idx is = record {
  same = is.same;
  current = record { at_most = grind (arith, is.own); own = (λ _. is.none, λ _. is.own) };
}

fresh_whole : (id count : ℕ) (h : PlainSliceSegmentHeader) → IsFresh id count h → IsWhole id count h
fresh_whole id count h fit =
    (fit.0, own_current id count h.pic_parameter_set_id h.short_term_ref_pic_set_sps_flag h.curr_rps_idx fit.1)

-- one of the sequence set's is
one_current : (count idx : ℕ) → 1 ≤ count → idx ≤ count - 1 → IsCurrent count true idx
one_current count idx some le = record {
  at_most = grind (arith, some, le);
  own = (λ e. absurd (not_last count idx some le e), λ e. absurd (true≢false e));
}
  where
    not_last : (count idx : ℕ) → 1 ≤ count → idx ≤ count - 1 → idx ≡ count → ⊥
    not_last count idx some le e = grind (arith, some, le, e)

-- few active places, and a whole header
pub record HaveLists (id count : ℕ) (h : PlainSliceSegmentHeader) : Type 0 where
  pub active : HaveActive h
  pub whole : IsWhole id count h

-- few active places, lists whose order isn't told, and a current short-term set
pub record HaveUntold (id count : ℕ) (h : PlainSliceSegmentHeader) : Type 0 where
  pub active : HaveActive h
  pub untold : IsUntold h
  pub named : IsNamed id count h.pic_parameter_set_id h.short_term_ref_pic_set_sps_flag h.curr_rps_idx

-- few long-term pictures, and a whole header
pub record HaveLongTerm (id count : ℕ) (h : PlainSliceSegmentHeader) : Type 0 where
  pub few : h.num_long_term_sps + h.num_long_term_pics ≤ 16
  pub whole : IsWhole id count h

-- whether a set is named, where there is none to name
takes_false : (r : Row) → Takes 1 (λ (b : Bool). b ≡ false) (zero_row r)
unfolding zero_row
takes_false r = takes_element (λ (b : Bool). b ≡ false) r (u 1) (λ v. v == 0) (λ v. v == 1)
    (λ v h. grind (arith, nat_tests, h))

flag_takes : (count : ℕ) (b : Bool) → (count == 0) ≡ b
    → Takes 1 (λ (names_one : Bool). names_one ≡ true
    → 1 ≤ count) (either b (zero_row (row 14 11)) (flag_row (row 14 11)))
unfolding either
flag_takes count true e = takes_more 1 (grind arith) (λ x none t. absurd (true≢false (sym t ∙ none)))
    (takes_false (row 14 11))
flag_takes count false e = takes_more 1 (grind arith) (λ x p t. grind (arith, nat_tests, e)) (takes_flag (row 14 11))

module _ (sps : PlainSps) (pps : PlainPps) (small : AreSmall sps pps) (id : ℕ) where
  -- how many short-term sets the sequence set has
  abbrev count : ℕ
  count = sps.num_short_term_ref_pic_sets

  -- rows 4 and 5
  later_takes : (h : PlainSliceSegmentHeader) → IsFresh id count h
      → Takes 33 (IsFresh id count) (table.later_segment sps pps h)
  unfolding table.later_segment
  later_takes h fit =
      takes_part 1 32 (takes_when pps.dependent_slice_segments_enabled_flag false tt (takes_flag (row 14 4)))
      (λ a p. takes_part 32 0 (index_takes (row 14 5) sps.pic_size_in_ctbs_y 0 (sps.pic_size_in_ctbs_y - 1))
      (λ b q. takes_done fit))

  -- rows 6 to 9
  kind_takes : (h : PlainSliceSegmentHeader) → IsFresh id count h → Takes 321 (IsFresh id count) (table.kind sps pps h)
  unfolding table.kind
  kind_takes h fit =
      takes_part 255 66 (takes_any 255 small.extra (takes_skip (row 14 6) pps.num_extra_slice_header_bits))
      (λ a p. takes_part 63 3 (takes_ue (row 14 7) 0 2)
      (λ b q. takes_part 1 2 (takes_when pps.output_flag_present_flag true tt (takes_flag (row 14 8)))
      (λ c r. takes_part 2 0
      (takes_when sps.separate_colour_plane_flag 0 tt
      (takes_any 2 (grind arith) (takes_bits (row 14 9) 2 0 3))) (λ d s. takes_done fit))))

  -- rows 11 to 13
  short_term_flag_takes : Takes 1 (λ (names_one : Bool). names_one ≡ true → 1 ≤ count) (table.short_term_flag sps)
  unfolding table.short_term_flag
  short_term_flag_takes = flag_takes count (count == 0) refl

  own_set_takes : (h : PlainSliceSegmentHeader) → IsFresh id count h
      → Takes 2175 (IsWhole id count) (table.own_short_term_set sps h)
  unfolding table.own_short_term_set
  own_set_takes h fit =
      takes_sized (set_takes sps.short_term_ref_pic_set count
      (highest_buffering sps) count small.sets small.buffering) (λ x size p. fresh_whole id count h fit)

  index_in_count : 1 ≤ count
      → Takes 32 (UpTo (count - 1)) (when (nat_lt 1 count) 0 (bits_row (row 14 13) (ceil_log2 count) 0 (count - 1)))
  index_in_count some =
      takes_when (nat_lt 1 count) 0 (grind arith) (takes_more 32 (few_index_bits count)
      (λ x q. q) (takes_bits (row 14 13) (ceil_log2 count) 0 (count - 1)))

  candidate_set_takes : (h : PlainSliceSegmentHeader) → HasLists h → h.pic_parameter_set_id ≡ id → 1 ≤ count
      → Takes 2175 (IsWhole id count)
      (table.candidate_short_term_set sps (record h { short_term_ref_pic_set_sps_flag = true }))
  unfolding table.candidate_short_term_set
  candidate_set_takes h lists same some = takes_more 2175 {P = IsWhole id count} (grind arith)
      (λ x q. q) (takes_part 32 0 (index_in_count some)
      (λ a p. takes_done (lists, record { same = same; current = one_current count a some p })))

  named_set_takes : (names_one : Bool) (h : PlainSliceSegmentHeader) → (names_one ≡ true → 1 ≤ count)
      → IsFresh id count h
      → Takes 2175 (IsWhole id count)
      (either names_one
      (table.candidate_short_term_set sps (record h { short_term_ref_pic_set_sps_flag = names_one }))
      (table.own_short_term_set sps (record h { short_term_ref_pic_set_sps_flag = names_one })))
  unfolding either
  named_set_takes true h some fit = candidate_set_takes h fit.0 fit.1.same (some refl)
  named_set_takes false h some fit =
      own_set_takes (record h { short_term_ref_pic_set_sps_flag = false }) (
        fit.0,
        record {
          same = fit.1.same;
          none = refl;
          own = fit.1.own;
        },
      )

  -- rows 10 to 13
  short_term_takes : (h : PlainSliceSegmentHeader) → IsFresh id count h
      → Takes 2192 (IsWhole id count) (table.short_term sps h)
  unfolding table.short_term
  short_term_takes h fit =
      takes_part 16 2176
      (takes_any 16 small.lsb (takes_bits (row 14 10) (table.lsb_bits sps) 0 (2 ^ table.lsb_bits sps - 1)))
      (λ a p. takes_part 1 2175 short_term_flag_takes
      (λ b q. named_set_takes b (record h { pic_order_cnt_lsb = a }) q fit))

  -- rows 14 and 15
  counts_take : (h : PlainSliceSegmentHeader) → IsWhole id count h
      → Takes 126 (HaveLongTerm id count) (table.long_term_counts sps h)
  unfolding table.long_term_counts
  counts_take h fit =
      takes_part 63 63 {P = UpTo 16}
      (takes_when (not (sps.num_long_term_ref_pics_sps == 0)) 0 (grind arith)
      (takes_more 63 (grind arith)
      (λ x p. grind (arith, p)) (takes_ue (row 14 14) 0 (min 16 sps.num_long_term_ref_pics_sps))))
      (λ a p. takes_part 63 0 (takes_ue (row 14 15) 0 (16 - a))
      (λ b q. takes_done (record { few = grind (arith, p, q); whole = fit })))

  -- row 16, or rows 17 and 18
  candidate_takes : (i : ℕ) (h : PlainSliceSegmentHeader) → IsWhole id count h
      → Takes 32 (IsWhole id count) (table.candidate_long_term_picture sps i h)
  unfolding table.candidate_long_term_picture
  candidate_takes i h fit =
      takes_part 32 0
      (takes_when (nat_lt 1 sps.num_long_term_ref_pics_sps) 0 tt
      (index_takes (row 14 16) sps.num_long_term_ref_pics_sps 0 (sps.num_long_term_ref_pics_sps - 1)))
      (λ a p. takes_done fit)

  other_takes : (i : ℕ) (h : PlainSliceSegmentHeader) → IsWhole id count h
      → Takes 32 (IsWhole id count) (table.other_long_term_picture sps i h)
  unfolding table.other_long_term_picture
  other_takes i h fit =
      takes_more 32 {P = IsWhole id count} (grind arith)
      (λ x q. q) (takes_part 16 1
      (takes_any 16 small.lsb (takes_bits (row 14 17) (table.lsb_bits sps) 0 (2 ^ table.lsb_bits sps - 1)))
      (λ a p. takes_part 1 0 (takes_flag (row 14 18)) (λ b q. takes_done fit)))

  -- rows 19 and 20
  cycles_take : (i : ℕ) (h : PlainSliceSegmentHeader) → IsWhole id count h
      → Takes 64 (IsWhole id count) (table.msb_cycles sps i h)
  unfolding table.msb_cycles
  cycles_take i h fit =
      takes_part 1 63 (takes_flag (row 14 19))
      (λ a p. takes_part 63 0
      (takes_when a 0 tt
      (takes_any 63 (grind arith) (takes_ue (row 14 20) 0 (2 ^ (32 - table.lsb_bits sps))))) (λ b q. takes_done fit))

  picture_takes : (i : ℕ) (h : PlainSliceSegmentHeader) → IsWhole id count h
      → Takes 96 (IsWhole id count) (table.long_term_picture sps i h)
  unfolding table.long_term_picture
  picture_takes i h fit =
      takes_part 32 64
      (takes_either (nat_lt i h.num_long_term_sps) (candidate_takes i h fit) (other_takes i h fit))
      (λ g p. cycles_take i g p)

  pictures_take : (h : PlainSliceSegmentHeader) → HaveLongTerm id count h
      → Takes 1536 (IsWhole id count) (table.long_term_pictures sps h)
  unfolding table.long_term_pictures
  pictures_take h have = takes_more 1536 (grind (arith, have.few))
      (λ x q. q) (takes_repeat 96
      (λ i s p. picture_takes i s p) 0 (h.num_long_term_sps + h.num_long_term_pics) h have.whole)

  -- rows 14 to 20
  long_term_takes : (h : PlainSliceSegmentHeader) → IsWhole id count h
      → Takes 1662 (IsWhole id count) (table.long_term sps h)
  unfolding table.long_term
  long_term_takes h fit = takes_part 126 1536 (counts_take h fit) (λ g p. pictures_take g p)

  -- rows 10 to 21
  reference_takes : (h : PlainSliceSegmentHeader) → IsFresh id count h
      → Takes 3855 (IsWhole id count) (table.reference_pictures sps h)
  unfolding table.reference_pictures
  reference_takes h fit =
      takes_part 2192 1663 (short_term_takes h fit)
      (λ g p. takes_part 1662 1 (takes_when sps.long_term_ref_pics_present_flag g p (long_term_takes g p))
      (λ f q. takes_part 1 0 (takes_when sps.temporal_mvp_enabled_flag false tt (takes_flag (row 14 21)))
      (λ b r. takes_done q)))

  -- rows 22 and 23
  adaptive_takes : (h : PlainSliceSegmentHeader) → IsWhole id count h
      → Takes 2 (IsWhole id count) (table.adaptive_offset sps h)
  unfolding table.adaptive_offset
  adaptive_takes h fit =
      takes_part 1 1 (takes_when sps.sample_adaptive_offset_enabled_flag false tt (takes_flag (row 14 22)))
      (λ a p. takes_part 1 0
      (takes_when (sps.sample_adaptive_offset_enabled_flag && has_chroma sps) false tt
      (takes_flag (row 14 23))) (λ b q. takes_done fit))

  -- rows 24 to 26
  own_counts_take : (h : PlainSliceSegmentHeader) → IsUntold h
      → IsNamed id count h.pic_parameter_set_id h.short_term_ref_pic_set_sps_flag h.curr_rps_idx
      → Takes 126 (HaveUntold id count) (table.own_active_counts h)
  unfolding table.own_active_counts
  own_counts_take h none named =
      takes_part 63 63 (takes_ue (row 14 25) 0 14)
      (λ a p. takes_part 63 0 {P = UpTo 14}
      (takes_when (is_b h.type_) 0 (grind arith) (takes_ue (row 14 26) 0 14))
      (λ b q. takes_done (record { active = (p, q); untold = none; named = named })))

  active_take : (h : PlainSliceSegmentHeader) → IsUntold h
      → IsNamed id count h.pic_parameter_set_id h.short_term_ref_pic_set_sps_flag h.curr_rps_idx
      → Takes 127 (HaveUntold id count) (table.active_counts pps h)
  unfolding table.active_counts table.with_default_active_counts
  active_take h none named =
      takes_part 1 126 (takes_flag (row 14 24))
      (λ a p. takes_either a (own_counts_take _ none named)
      (takes_more 126 (grind arith)
      (λ x q. q) (takes_done (record { active = (small.l0, small.l1); untold = none; named = named }))))

  -- row 27
  list_modification_takes : (h : PlainSliceSegmentHeader) → HaveActive h
      → IsNamed id count h.pic_parameter_set_id h.short_term_ref_pic_set_sps_flag h.curr_rps_idx
      → Takes 962 (HaveLists id count) (table.list_modification h)
  unfolding table.list_modification
  list_modification_takes h few named =
      takes_part 962 0
      (modification_takes (is_b h.type_) h.num_pic_total_curr h.num_ref_idx_l0_active_minus1
      h.num_ref_idx_l1_active_minus1 few.0 few.1) (λ m p. takes_done (record { active = few; whole = (p, named) }))

  -- rows 24 to 27
  lists_take : (h : PlainSliceSegmentHeader) → IsWhole id count h
      → Takes 1089 (HaveLists id count) (table.reference_lists sps pps h)
  unfolding table.reference_lists table.with_pictures
  lists_take h fit = takes_part 127 962 (active_take _ (refl, refl) fit.1)
      (λ g p. takes_when (table.has_list_modification pps g) g (record {
        active = p.active;
        whole = (untold_lists g p.untold, p.named);
      }) (list_modification_takes g p.active p.named))

  -- rows 28 to 31
  motion_takes : (h : PlainSliceSegmentHeader) → HaveLists id count h
      → Takes 66 (HaveLists id count) (table.motion pps h)
  unfolding table.motion
  motion_takes h have =
      takes_part 1 65 (takes_when (is_b h.type_) false tt (takes_flag (row 14 28)))
      (λ a p. takes_part 1 64 (takes_when pps.cabac_init_present_flag false tt (takes_flag (row 14 29)))
      (λ b q. takes_part 1 63
      (takes_when (h.temporal_mvp_enabled_flag && is_b h.type_) true tt (takes_flag (row 14 30)))
      (λ c r. takes_part 63 0 (takes_when _ 0 tt (takes_any 63 (grind arith) (takes_ue (row 14 31) 0 _)))
      (λ d s. takes_done (record { active = have.active; whole = have.whole })))))

  -- rows 32 to 34
  weights_takes : (h : PlainSliceSegmentHeader) → HaveLists id count h
      → Takes 11590 (IsWhole id count) (table.weights sps pps h)
  unfolding table.weights
  weights_takes h have =
      takes_part 11526 64
      (takes_when (table.is_weighted pps h.type_) default_pred_weight_table tt
      (weights_take sps (is_b h.type_) h.num_ref_idx_l0_active_minus1 h.num_ref_idx_l1_active_minus1
      have.active.0 have.active.1))
      (λ a p. takes_part 63 1 (takes_ue (row 14 33) 0 255)
      (λ b q. takes_part 1 0
      (takes_when (sps.scc_extension.motion_vector_resolution_control_idc == 2) h.use_integer_mv_flag tt
      (takes_flag (row 14 34))) (λ c r. takes_done have.whole)))

  -- rows 24 to 34
  prediction_takes : (h : PlainSliceSegmentHeader) → IsWhole id count h
      → Takes 12745 (IsWhole id count) (table.prediction sps pps h)
  unfolding table.prediction
  prediction_takes h fit = takes_part 1089 11656 (lists_take h fit)
      (λ g p. takes_part 66 11590 (motion_takes g p) (λ f q. weights_takes f q))

  -- rows 35 to 42
  chroma_offset_takes : (number : ℕ) (of_picture_set : ℤ) → Takes 63 Any (table.chroma_offset number of_picture_set)
  unfolding table.chroma_offset
  chroma_offset_takes number of_picture_set =
      takes_part 63 0 (takes_se _ _ _) (λ a p. takes_part 0 0 (takes_check _ _) (λ b q. takes_done tt))

  chroma_offsets_take : (h : PlainSliceSegmentHeader) → IsWhole id count h
      → Takes 126 (IsWhole id count) (table.chroma_offsets pps h)
  unfolding table.chroma_offsets
  chroma_offsets_take h fit = takes_part 63 63 (chroma_offset_takes 37 pps.cb_qp_offset)
      (λ a p. takes_part 63 0 (chroma_offset_takes 39 pps.cr_qp_offset) (λ b q. takes_done fit))

  quantiser_takes : (h : PlainSliceSegmentHeader) → IsWhole id count h
      → Takes 189 (IsWhole id count) (table.quantiser pps h)
  unfolding table.quantiser
  quantiser_takes h fit =
      takes_part 63 126 (takes_se _ _ _)
      (λ a p. takes_part 0 126 (takes_check _ _)
      (λ b q. takes_when pps.slice_chroma_qp_offsets_present_flag _ fit (chroma_offsets_take _ fit)))

  colour_takes : (h : PlainSliceSegmentHeader) → IsWhole id count h
      → Takes 189 (IsWhole id count) (table.colour_transform_offsets h)
  unfolding table.colour_transform_offsets
  colour_takes h fit = takes_part 63 126 (takes_se _ _ _)
      (λ a p. takes_part 63 63 (takes_se _ _ _) (λ b q. takes_part 63 0 (takes_se _ _ _) (λ c r. takes_done fit)))

  extension_takes : (h : PlainSliceSegmentHeader) → IsWhole id count h
      → Takes 190 (IsWhole id count) (table.extension_offsets pps h)
  unfolding table.extension_offsets
  extension_takes h fit =
      takes_part 189 1 (takes_when pps.scc_extension.slice_act_qp_offsets_present_flag h fit (colour_takes h fit))
      (λ g p. takes_part 1 0 (takes_when pps.range_extension.chroma_qp_offset_list_enabled_flag false tt
      (takes_flag (row 14 42))) (λ b q. takes_done p))

  quantisers_take : (h : PlainSliceSegmentHeader) → IsWhole id count h
      → Takes 379 (IsWhole id count) (table.quantisers pps h)
  unfolding table.quantisers
  quantisers_take h fit = takes_part 189 190 (quantiser_takes h fit) (λ g p. extension_takes g p)

  -- rows 43 to 47
  filter_offsets_take : (h : PlainSliceSegmentHeader) → IsWhole id count h
      → Takes 126 (IsWhole id count) (table.filter_offsets h)
  unfolding table.filter_offsets
  filter_offsets_take h fit =
      takes_part 63 63 (takes_se _ _ _) (λ a p. takes_part 63 0 (takes_se _ _ _) (λ b q. takes_done fit))

  own_deblocking_takes : (h : PlainSliceSegmentHeader) → IsWhole id count h
      → Takes 127 (IsWhole id count) (table.own_deblocking h)
  unfolding table.own_deblocking
  own_deblocking_takes h fit = takes_part 1 126 (takes_flag (row 14 44))
      (λ a p. takes_when (not a) _ fit (filter_offsets_take _ fit))

  across_takes : (h : PlainSliceSegmentHeader) → IsWhole id count h
      → Takes 1 (IsWhole id count) (table.across_slices pps h)
  unfolding table.across_slices
  across_takes h fit =
      takes_part 1 0
      (takes_when (pps.loop_filter_across_slices_enabled_flag && table.has_filters h)
      h.loop_filter_across_slices_enabled_flag tt (takes_flag (row 14 47))) (λ b q. takes_done fit)

  filters_take : (h : PlainSliceSegmentHeader) → IsWhole id count h → Takes 129 (IsWhole id count) (table.filters pps h)
  unfolding table.filters
  filters_take h fit =
      takes_part 1 128 (takes_when pps.deblocking_filter_override_enabled_flag false tt (takes_flag (row 14 43)))
      (λ a p. takes_part 127 1 (takes_when a _ fit (own_deblocking_takes _ fit)) (λ g q. across_takes g q))

  -- rows 6 to 47
  independent_takes : (nal_unit_type : ℕ) (h : PlainSliceSegmentHeader) → IsFresh id count h
      → Takes 17431 (IsWhole id count) (table.independent_segment nal_unit_type sps pps h)
  unfolding table.independent_segment
  independent_takes t h fit =
      takes_part 321 17110 (kind_takes h fit)
      (λ a p. takes_part 3855 13255 (takes_when (not (is_idr t)) a (fresh_whole id count a p) (reference_takes a p))
      (λ b q. takes_part 2 13253 (adaptive_takes b q)
      (λ c r. takes_part 12745 508 (takes_when (not (is_i c.type_)) c r (prediction_takes c r))
      (λ d s. takes_part 379 129 (quantisers_take d s) (λ e u. filters_take e u)))))

  -- rows 48 to 50
  entries_take : (bits count : ℕ) → bits ≤ 32 → Takes (count * 32) Any (table.entry_points bits count)
  unfolding table.entry_points table.entry_point
  entries_take bits count le =
      takes_repeat 32
      (λ i s p. takes_part 32 0 (takes_any 32 le (takes_bits (row 14 50) bits 0 (2 ^ bits - 1)))
      (λ e q. takes_done tt)) 0 count [] tt

  offsets_take : (h : PlainSliceSegmentHeader) → h.num_entry_point_offsets ≤ 2 ^ 20 → IsWhole id count h
      → Takes 33554495 (IsWhole id count) (table.entry_point_offsets h)
  unfolding table.entry_point_offsets
  offsets_take h few fit =
      takes_part 63 33554432 (takes_ue (row 14 49) 0 31)
      (λ a p. takes_part 33554432 0
      (takes_any 33554432 (grind (arith, few))
      (entries_take (a + 1) h.num_entry_point_offsets (grind (arith, p)))) (λ b q. takes_done fit))

  parts_take : (h : PlainSliceSegmentHeader) → IsWhole id count h
      → Takes 33554558 (IsWhole id count) (table.parallel_parts sps pps h)
  unfolding table.parallel_parts
  parts_take h fit =
      takes_part 63 33554495 (takes_ue (row 14 48) 0 (table.most_entry_points sps pps))
      (λ a p. takes_when (not (a == 0)) _ fit (offsets_take _ (grind (arith, p, small.parts)) fit))

  -- rows 51 and 52
  header_extension_takes : (h : PlainSliceSegmentHeader) → IsWhole id count h
      → Takes 2111 (IsWhole id count) (table.header_extension h)
  unfolding table.header_extension
  header_extension_takes h fit = takes_part 63 2048 (takes_ue (row 14 51) 0 256)
      (λ a p. takes_part 2048 0 (takes_any 2048 (grind (arith, p)) (takes_skip (row 14 52) (8 * a)))
      (λ b q. takes_done fit))

  ending_takes : (h : PlainSliceSegmentHeader) → IsWhole id count h
      → Takes 33556669 (IsWhole id count) (table.ending sps pps h)
  unfolding table.ending
  ending_takes h fit =
      takes_part 33554558 2111
      (takes_when (pps.tiles_enabled_flag || pps.entropy_coding_sync_enabled_flag) h fit (parts_take h fit))
      (λ g p. takes_when pps.slice_segment_header_extension_present_flag g p (header_extension_takes g p))

  -- rows 4 to 52
  header_takes : (nal_unit_type : ℕ) (h : PlainSliceSegmentHeader) → Begins h → h.pic_parameter_set_id ≡ id
      → Takes 33574133 (IsWhole id count) (table.header_of nal_unit_type sps pps h)
  unfolding table.header_of
  header_takes t h fit same =
      let begun : IsFresh id count (table.with_defaults sps pps h) =
      (fit.0, record { same = same; none = fit.1; own = refl }) in
      takes_part 33 33574100 (takes_when _ _ begun (later_takes _ begun))
      (λ a p. takes_part 17431 33556669
      (takes_when (not a.dependent_slice_segment_flag) a (fresh_whole id count a p)
      (independent_takes t a p)) (λ b q. ending_takes b q))

-- rows 1 to 52, of a header that begins as a new one: how many bits they take, and what the header is after them
rows_take : (nal_unit_type : ℕ) (sps : PlainSps) (pps : PlainPps) → AreSmall sps pps
    → (h begun read_whole : PlainSliceSegmentHeader) (all behind rest : List Bool) → h ≡ default_slice_header
    → read (table.beginning nal_unit_type h) all ≡ gives begun behind
    → read (table.header_of nal_unit_type sps pps begun) behind ≡ gives read_whole rest
    → (length all ≤ 65 + (33574133 + length rest))
    × IsWhole begun.pic_parameter_set_id sps.num_short_term_ref_pic_sets read_whole
rows_take t sps pps small h begun read_whole all behind rest new first second =
    let begins : Begins h = subst (λ (x : PlainSliceSegmentHeader). Begins x) (sym new) default_lists in
    let one = (beginning_takes t h begins).taken all begun behind first in
    let two = (header_takes sps pps small begun.pic_parameter_set_id t begun one.1 refl).taken behind
    read_whole rest second in
    (grind (arith, one.0, two.0), two.1)

-- the same of a reader's three positions
pub rows_taken : (nal_unit_type : ℕ) (sps : PlainSps) (pps : PlainPps) → AreSmall sps pps
    → (h begun read_whole : PlainSliceSegmentHeader) (old mid new : Position) → h ≡ default_slice_header
    → scanned (table.beginning nal_unit_type h) old ≡ gave begun mid.telling (left mid)
    → scanned (table.header_of nal_unit_type sps pps begun) mid ≡ gave read_whole new.telling (left new)
    → (length (left old) ≤ 65 + (33574133 + length (left new)))
    × IsWhole begun.pic_parameter_set_id sps.num_short_term_ref_pic_sets read_whole
rows_taken t sps pps small h begun read_whole old mid new fresh first second =
    rows_take t sps pps small h begun read_whole (left old) (left mid) (left new) fresh
    (given_is_read (table.beginning t h) old mid begun first)
    (given_is_read (table.header_of t sps pps begun) mid new read_whole second)
