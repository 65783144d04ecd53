-- What the parts of table 14 leave.
use Rattle.std.proofs.Common.{◌≡◌, ℕ, ◌+◌, ◌-◌, ◌*◌, ◌^◌, ◌<◌, Bool, true, false, List, [], ◌∷◌}
use Rattle.std.proofs.Common.{◌++◌, length, get_or, refl, sym, ap, ap₂, subst, ◌∙◌, arith}
use Rattle.std.proofs.lemmas.List.{append-nil}
use Rattle.std.specs.Prelude.{ℤ, None, not, ◌==◌}
use Rattle.hevc_spec.specs.declared.Row.{Row}
use Rattle.hevc_spec.specs.Bits.{ue, skip, in_range}
use Rattle.hevc_spec.specs.Table.{Table, part, done}
use Rattle.hevc_spec.specs.Rows.{row, repeat, either, flag_row, zero_row, bits_row, ue_row, skip_row}
use Rattle.hevc_spec.specs.UnitTypes.{is_idr}
use Rattle.hevc_bit_writer.specs.Writing.{spelled}
use Rattle.hevc_records.specs.Pps.{PlainPps}
use Rattle.hevc_records.specs.SliceHeader.{PlainSliceSegmentHeader}
use Rattle.hevc_records.specs.Sps.{PlainSps}
use Rattle.hevc_tables.specs.SliceTypes.{is_i}
use Rattle.hevc_tables.specs.SliceHeaderTable.{across_slices, active_counts, adaptive_offset}
use Rattle.hevc_tables.specs.SliceHeaderTable.{beginning, candidate_long_term_picture}
use Rattle.hevc_tables.specs.SliceHeaderTable.{candidate_short_term_set, chroma_offset}
use Rattle.hevc_tables.specs.SliceHeaderTable.{chroma_offsets, colour_transform_offsets, ending}
use Rattle.hevc_tables.specs.SliceHeaderTable.{entry_point, entry_point_offsets, entry_points}
use Rattle.hevc_tables.specs.SliceHeaderTable.{extension_offsets, filter_offsets, filters}
use Rattle.hevc_tables.specs.SliceHeaderTable.{header_extension, kind, later_segment}
use Rattle.hevc_tables.specs.SliceHeaderTable.{list_modification, long_term, long_term_counts}
use Rattle.hevc_tables.specs.SliceHeaderTable.{long_term_picture, long_term_pictures, motion}
use Rattle.hevc_tables.specs.SliceHeaderTable.{msb_cycles, other_long_term_picture}
use Rattle.hevc_tables.specs.SliceHeaderTable.{own_active_counts, own_deblocking, parallel_parts}
use Rattle.hevc_tables.specs.SliceHeaderTable.{prediction, quantiser, quantisers, reference_lists}
use Rattle.hevc_tables.specs.SliceHeaderTable.{short_term_flag, weights, with_default_active_counts}
use Rattle.hevc_tables.specs.SliceHeaderTable.{with_pictures}
use Rattle.hevc_write_elements.specs.Choices.{IsFormed, chosen_value, is_chosen}
use Rattle.hevc_write_elements.specs.Filling.{EachFilling, Keeps, Writes, WritesBits, WritesFlag}
use Rattle.hevc_write_elements.specs.Filling.{WritesTable, WritesTurn, WritesTurns, WritesUe}
use Rattle.hevc_write_elements.specs.Filling.{are_first}
use Rattle.hevc_write_elements.proofs.RowRules.{IsKept, flag_written, zero_written, either_filled}
use Rattle.hevc_write_elements.proofs.Steps.{IsFillable, bits_fillable, by, check_fillable}
use Rattle.hevc_write_elements.proofs.Steps.{check_then, counted_part_written, done_either_kept}
use Rattle.hevc_write_elements.proofs.Steps.{done_filled, either_kept, filled, flag_fillable}
use Rattle.hevc_write_elements.proofs.Steps.{part_kept, se_fillable, then_filled, ue_fillable}
use Rattle.hevc_write_elements.proofs.Steps.{when_fillable, when_kept, zeros_fillable, numbers}
use Rattle.hevc_write_elements.proofs.Steps.{lists_decided, bits_table}
use Rattle.hevc_write_elements.proofs.Loops.{turns_keep, all_turns, all_same}
use Rattle.hevc_write_elements.proofs.Growing.{item_written, items_written, items_fillable}
use Rattle.hevc_write_elements.proofs.Counting.{done_none, element_none, none_filled, then_none}
use Rattle.hevc_write_elements.proofs.Forming.{done_formed, part_formed, element_formed}
use Rattle.hevc_write_short_term.proofs.Tables.{short_term_set_fillable}
use Rattle.hevc_write_slice_parts.proofs.ListKeeps.{list_modification_fillable}
use Rattle.hevc_write_slice_parts.proofs.WeightKeeps.{pred_weight_table_fillable}
use Rattle.hevc_write_slice_header.specs.HeaderParts as own

-- ---- elements of two kinds

-- a flag that in one case must not be set
module _ (r : Row) (kept : IsKept r) (c : Bool) where
  -- a flag is written for a row that may have to be 0
  pub some_flag_written : {value : Bool} {w old new : List Bool} {Q : Bool → List Bool → Type 0}
      → WritesFlag value old new
      → ((v : Bool) (all : List Bool) → (v ≡ value → w ≡ old → all ≡ new) → Q v all)
      → EachFilling (either c (zero_row r) (flag_row r)) w Q
  some_flag_written {value = value} {w = w} writes f = either_filled
      (λ is. zero_written r {w = w} {old = w} kept refl
      (λ all g. f false all (λ is at. g refl ∙ ap₂ (λ (o : List Bool) (b : Bool). o ++ b ∷ []) at is ∙ sym writes)))
      (λ is. flag_written r kept writes f)

  -- there are always lines of either to write
  pub some_flag_fillable : IsFillable (either c (zero_row r) (flag_row r))
  some_flag_fillable = record { fill = λ w. some_flag_written {value = false} {old = w} refl (λ v all h. tt) }

-- ---- entry points

module _ (num_bits : ℕ) where
  -- row 50, as a table
  point : ℕ → List ℕ → Table ℕ
  point i offsets = bits_row (row 14 50) num_bits 0 (2 ^ num_bits - 1)

  -- there are always lines of point to write
  point_fillable : (i : ℕ) (offsets : List ℕ) → IsFillable (point i offsets)
  unfolding point
  point_fillable i offsets = bits_fillable (row 14 50) refl num_bits 0 (2 ^ num_bits - 1)

  -- there are always lines of entry points to write
  pub entry_points_fillable : (count : ℕ) → IsFillable (entry_points num_bits count)
  unfolding entry_points entry_point point
  entry_points_fillable count = items_fillable point point_fillable count

  -- one entry point is written
  pub entry_point_written : (xs : List ℕ) (i : ℕ) {old new : List Bool} → i < length xs
      → WritesBits num_bits (get_or xs i 0) old new → WritesTurn (entry_point num_bits) (are_first xs) i old new
  unfolding entry_point point
  entry_point_written xs i lt writes =
      item_written point point_fillable xs i 0 (lists_decided numbers) lt
      (bits_table (row 14 50) refl num_bits 0 (2 ^ num_bits - 1) writes)

  -- the whole of it is written once all its turns are
  pub entry_points_written : (xs : List ℕ) (m count : ℕ) {old new : List Bool}
      → WritesTurns (entry_point num_bits) (are_first xs) m old new → m ≡ length xs
      → WritesTable (entry_points num_bits count) xs old new
  unfolding entry_points entry_point point
  entry_points_written xs m count turns e = items_written point point_fillable xs m count turns e

-- ---- parts

-- sets no elements but those of rows 1 to 3
pub beginning_keeps : (nalu_type : ℕ) → Keeps (beginning nalu_type) own.beginning_of
unfolding beginning
beginning_keeps nalu_type = record {
  same = λ y. refl;
  last = λ x y z. refl;
  kept = λ y w. then_filled
      (filled (flag_fillable _ refl)
      (λ v1 b1. then_filled (filled (when_fillable _ _ (flag_fillable _ refl))
      (λ v2 b2. then_filled (filled (ue_fillable _ refl _ _) (λ v3 b3. done_filled refl))))));
}

-- sets no elements but those of rows 4 and 5
pub later_segment_keeps : (sps : PlainSps) (pps : PlainPps) → Keeps (later_segment sps pps) own.later_segment_of
unfolding later_segment
later_segment_keeps sps pps = record {
  same = λ y. refl;
  last = λ x y z. refl;
  kept = λ y w. then_filled (filled (when_fillable _ _ (flag_fillable _ refl))
      (λ v1 b1. then_filled (filled (bits_fillable _ refl _ _ _) (λ v2 b2. done_filled refl))));
}

-- sets no elements but those of rows 6 to 9
pub kind_keeps : (sps : PlainSps) (pps : PlainPps) → Keeps (kind sps pps) own.kind_of
unfolding kind
kind_keeps sps pps = record {
  same = λ y. refl;
  last = λ x y z. refl;
  kept = λ y w. then_filled (filled (zeros_fillable (row 14 6) _ refl)
      (λ v1 b1. then_filled
      (filled (ue_fillable _ refl _ _)
      (λ v2 b2. then_filled (filled (when_fillable _ _ (flag_fillable _ refl))
      (λ v3 b3. then_filled (filled (when_fillable _ _ (bits_fillable _ refl _ _ _)) (λ v4 b4. done_filled refl))))))));
}

-- sets no elements but those of rows 12 and 13, and which set is the current one
pub candidate_short_term_set_keeps : (sps : PlainSps) → Keeps (candidate_short_term_set sps) own.short_term_sets_of
unfolding candidate_short_term_set
candidate_short_term_set_keeps sps = record {
  same = λ y. refl;
  last = λ x y z. refl;
  kept = λ y w. then_filled (filled (when_fillable _ _ (bits_fillable _ refl _ _ _)) (λ v1 b1. done_filled refl));
}

-- sets no elements but those of rows 12 and 13, and which set is the current one
pub own_short_term_set_keeps : (sps : PlainSps) → Keeps (own.own_set_rows sps) own.short_term_sets_of
own_short_term_set_keeps sps = record {
  same = λ y. refl;
  last = λ x y z. refl;
  kept = λ y w. then_filled (filled (short_term_set_fillable _ _ _ _) (λ v1 b1. done_filled refl));
}

-- sets no elements but those of rows 10 to 13, and which set is the current one
pub short_term_keeps : (sps : PlainSps) → Keeps (own.short_term_rows sps) own.short_term_of
unfolding short_term_flag
short_term_keeps sps = record {
  same = λ y. refl;
  last = λ x y z. refl;
  kept = λ y w. then_filled (filled (bits_fillable _ refl _ _ _)
      (λ v1 b1. then_filled
      (filled (some_flag_fillable (row 14 11) refl (sps.num_short_term_ref_pic_sets == 0))
      (λ v2 b2. either_kept (candidate_short_term_set sps) (own.own_set_rows sps) own.short_term_sets_of
      (candidate_short_term_set_keeps sps) (own_short_term_set_keeps sps) _ _ (λ z3 b3. refl)))));
}

-- sets no elements but those of rows 14 and 15
pub long_term_counts_keeps : (sps : PlainSps) → Keeps (long_term_counts sps) own.long_term_counts_of
unfolding long_term_counts
long_term_counts_keeps sps = record {
  same = λ y. refl;
  last = λ x y z. refl;
  kept = λ y w. then_filled (filled (when_fillable _ _ (ue_fillable _ refl _ _))
      (λ v1 b1. then_filled (filled (ue_fillable _ refl _ _) (λ v2 b2. done_filled refl))));
}

-- sets no elements but those of rows 16 to 20
cycles_keep : (sps : PlainSps) (i : ℕ) → Keeps (msb_cycles sps i) own.long_term_pictures_of
unfolding msb_cycles
cycles_keep sps i = record {
  same = λ y. refl;
  last = λ x y z. refl;
  kept = λ y w. then_filled
      (filled (flag_fillable _ refl)
      (λ v1 b1. then_filled (filled (when_fillable _ _ (ue_fillable _ refl _ _)) (λ v2 b2. done_filled refl))));
}

-- sets no elements but those of rows 16 to 20
candidate_keeps : (sps : PlainSps) (i : ℕ) → Keeps (candidate_long_term_picture sps i) own.long_term_pictures_of
unfolding candidate_long_term_picture
candidate_keeps sps i = record {
  same = λ y. refl;
  last = λ x y z. refl;
  kept = λ y w. then_filled (filled (when_fillable _ _ (bits_fillable _ refl _ _ _)) (λ v1 b1. done_filled refl));
}

-- sets no elements but those of rows 16 to 20
other_keeps : (sps : PlainSps) (i : ℕ) → Keeps (other_long_term_picture sps i) own.long_term_pictures_of
unfolding other_long_term_picture
other_keeps sps i = record {
  same = λ y. refl;
  last = λ x y z. refl;
  kept = λ y w. then_filled (filled (bits_fillable _ refl _ _ _)
      (λ v1 b1. then_filled (filled (flag_fillable _ refl) (λ v2 b2. done_filled refl))));
}

-- sets no elements but those of rows 16 to 20
long_term_picture_keeps : (sps : PlainSps) (i : ℕ) → Keeps (long_term_picture sps i) own.long_term_pictures_of
unfolding long_term_picture
long_term_picture_keeps sps i = record {
  same = λ y. refl;
  last = λ x y z. refl;
  kept = λ y w. then_filled
      (either_kept (candidate_long_term_picture sps i)
      (other_long_term_picture sps i) own.long_term_pictures_of (candidate_keeps sps i)
      (other_keeps sps i) _ _
      (λ z1 b1. part_kept (msb_cycles sps i) own.long_term_pictures_of (cycles_keep sps i) _ (λ z2 b2. refl)));
}

-- sets no elements but those of rows 16 to 20
counted_pictures_keep : (sps : PlainSps) (n : ℕ) → Keeps (repeat (long_term_picture sps) 0 n) own.long_term_pictures_of
counted_pictures_keep sps n =
    turns_keep (long_term_picture sps) own.long_term_pictures_of (long_term_picture_keeps sps) n

-- sets no elements but those of rows 16 to 20
pub long_term_pictures_keeps : (sps : PlainSps) → Keeps (long_term_pictures sps) own.long_term_pictures_of
unfolding long_term_pictures
long_term_pictures_keeps sps = record {
  same = λ y. refl;
  last = λ x y z. refl;
  kept = λ y w. (counted_pictures_keep sps (y.num_long_term_sps + y.num_long_term_pics)).kept y w;
}

-- the whole of it is written once all its turns are
pub pictures_written : (sps : PlainSps) (x : PlainSliceSegmentHeader) (n : ℕ) {old new : List Bool}
    → WritesTurns (long_term_picture sps) (own.SameLongTerm x) n old new
    → n ≡ x.num_long_term_sps + x.num_long_term_pics
    → Writes (long_term_pictures sps) own.long_term_pictures_with_inputs_of x old new
unfolding long_term_pictures
pictures_written sps x n {old = old} {new = new} turns e =
    let all : Writes (repeat (long_term_picture sps) 0 (x.num_long_term_sps + x.num_long_term_pics))
    own.long_term_pictures_with_inputs_of x old new =
    subst (λ (k : ℕ). Writes (repeat (long_term_picture sps) 0 k) own.long_term_pictures_with_inputs_of x old new) e
    (all_turns (long_term_picture sps) (own.SameLongTerm x)
    (λ z is. record {
      counts = by is (λ r. r.num_long_term_sps);
      indices = all_same _ _ _ (by is (λ r. r.lt_idx_sps));
      lsbs = all_same _ _ _ (by is (λ r. r.poc_lsb_lt));
      used = all_same _ _ _ (by is (λ r. r.used_by_curr_pic_lt));
      presence = all_same _ _ _ (by is (λ r. r.delta_poc_msb_present_flag));
      cycles = all_same _ _ _ (by is (λ r. r.delta_poc_msb_cycle_lt));
    }) turns) in
    record {
      written = λ y w. counted_part_written
          (repeat (long_term_picture sps) 0) own.long_term_pictures_of (counted_pictures_keep sps)
          (y.num_long_term_sps + y.num_long_term_pics) y all refl
          (λ z b h e at. h (by e (λ r. r.num_long_term_sps + r.num_long_term_pics)) _ e refl at);
    }

-- sets no elements but those of rows 14 to 20
pub long_term_keeps : (sps : PlainSps) → Keeps (long_term sps) own.long_term_of
unfolding long_term
long_term_keeps sps = record {
  same = λ y. refl;
  last = λ x y z. refl;
  kept = λ y w. then_filled
      (part_kept (long_term_counts sps) own.long_term_counts_of (long_term_counts_keeps sps) _
      (λ z1 b1. part_kept (long_term_pictures sps) own.long_term_pictures_of
      (long_term_pictures_keeps sps) _ (λ z2 b2. refl)));
}

-- sets no elements but those of rows 10 to 21, and which short-term set is the current one
pub reference_pictures_keeps : (sps : PlainSps) → Keeps (own.reference_picture_rows sps) own.reference_pictures_of
reference_pictures_keeps sps = record {
  same = λ y. refl;
  last = λ x y z. refl;
  kept = λ y w. then_filled (part_kept (own.short_term_rows sps) own.short_term_of (short_term_keeps sps) y
      (λ z1 b1. then_filled (when_kept (long_term sps) own.long_term_of (long_term_keeps sps) _ _
      (λ z2 b2. then_filled (filled (when_fillable _ _ (flag_fillable _ refl)) (λ v3 b3. done_filled refl))))));
}

-- sets no elements but those of rows 22 and 23
pub adaptive_offset_keeps : (sps : PlainSps) → Keeps (adaptive_offset sps) own.adaptive_offset_of
unfolding adaptive_offset
adaptive_offset_keeps sps = record {
  same = λ y. refl;
  last = λ x y z. refl;
  kept = λ y w. then_filled (filled (when_fillable _ _ (flag_fillable _ refl))
      (λ v1 b1. then_filled (filled (when_fillable _ _ (flag_fillable _ refl)) (λ v2 b2. done_filled refl))));
}

-- sets no elements but those of rows 25 and 26
pub own_active_counts_keeps : Keeps own_active_counts own.own_active_counts_of
unfolding own_active_counts
own_active_counts_keeps = record {
  same = λ y. refl;
  last = λ x y z. refl;
  kept = λ y w. then_filled
      (filled (ue_fillable _ refl _ _)
      (λ v1 b1. then_filled (filled (when_fillable _ _ (ue_fillable _ refl _ _)) (λ v2 b2. done_filled refl))));
}

-- sets no elements but those of rows 24 to 26
pub active_counts_keeps : (pps : PlainPps) → Keeps (active_counts pps) own.active_counts_of
unfolding active_counts with_default_active_counts
active_counts_keeps pps = record {
  same = λ y. refl;
  last = λ x y z. refl;
  kept = λ y w. then_filled
      (filled (flag_fillable _ refl)
      (λ v1 b1. done_either_kept own_active_counts own.own_active_counts_of own_active_counts_keeps _ _ _
      refl (λ z2 b2. refl)));
}

-- sets no elements but those of row 27
pub list_modification_keeps : Keeps list_modification own.list_modification_of
unfolding list_modification
list_modification_keeps = record {
  same = λ y. refl;
  last = λ x y z. refl;
  kept = λ y w. then_filled (filled (list_modification_fillable _ _ _ _) (λ v1 b1. done_filled refl));
}

-- sets no elements but those of rows 24 to 27, with NumPicTotalCurr
pub reference_lists_keeps : (sps : PlainSps) (pps : PlainPps) → Keeps (reference_lists sps pps) own.reference_lists_of
unfolding reference_lists with_pictures
reference_lists_keeps sps pps = record {
  same = λ y. refl;
  last = λ x y z. refl;
  kept = λ y w. then_filled (part_kept (active_counts pps) own.active_counts_of (active_counts_keeps pps)
      (with_pictures sps pps y)
      (λ z1 b1. when_kept list_modification own.list_modification_of list_modification_keeps _ _ (λ z2 b2. refl)));
}

-- sets no elements but those of rows 28 to 31
pub motion_keeps : (pps : PlainPps) → Keeps (motion pps) own.motion_of
unfolding motion
motion_keeps pps = record {
  same = λ y. refl;
  last = λ x y z. refl;
  kept = λ y w. then_filled (filled (when_fillable _ _ (flag_fillable _ refl))
      (λ v1 b1. then_filled (filled (when_fillable _ _ (flag_fillable _ refl))
      (λ v2 b2. then_filled (filled (when_fillable _ _ (flag_fillable _ refl))
      (λ v3 b3. then_filled (filled (when_fillable _ _ (ue_fillable _ refl _ _)) (λ v4 b4. done_filled refl))))))));
}

-- sets no elements but those of rows 32 to 34
pub weights_keeps : (sps : PlainSps) (pps : PlainPps) → Keeps (weights sps pps) own.weights_of
unfolding weights
weights_keeps sps pps = record {
  same = λ y. refl;
  last = λ x y z. refl;
  kept = λ y w. then_filled (filled (when_fillable _ _ (pred_weight_table_fillable _ _ _ _))
      (λ v1 b1. then_filled
      (filled (ue_fillable _ refl _ _)
      (λ v2 b2. then_filled (filled (when_fillable _ _ (flag_fillable _ refl)) (λ v3 b3. done_filled refl))))));
}

-- sets no elements but those of rows 24 to 34
pub prediction_keeps : (sps : PlainSps) (pps : PlainPps) → Keeps (prediction sps pps) own.prediction_of
unfolding prediction
prediction_keeps sps pps = record {
  same = λ y. refl;
  last = λ x y z. refl;
  kept = λ y w. then_filled
      (part_kept (reference_lists sps pps) own.reference_lists_of (reference_lists_keeps sps pps) _
      (λ z1 b1. then_filled (part_kept (motion pps) own.motion_of (motion_keeps pps) _
      (λ z2 b2. part_kept (weights sps pps) own.weights_of (weights_keeps sps pps) _ (λ z3 b3. refl)))));
}

-- there are always lines of chroma offset to write
pub chroma_offset_fillable : (number : ℕ) (of_picture_set : ℤ) → chosen_value (row 14 number) ≡ None
    → IsFillable (chroma_offset number of_picture_set)
unfolding chroma_offset
chroma_offset_fillable number of_picture_set kept = record {
  fill = λ w. then_filled (filled (se_fillable _ kept _ _) (λ v1 b1. check_then _ _ (λ held. done_filled tt)));
}

-- sets no elements but those of rows 37 to 40
pub chroma_offsets_keeps : (pps : PlainPps) → Keeps (chroma_offsets pps) own.chroma_offsets_of
unfolding chroma_offsets
chroma_offsets_keeps pps = record {
  same = λ y. refl;
  last = λ x y z. refl;
  kept = λ y w. then_filled (filled (chroma_offset_fillable 37 _ refl)
      (λ v1 b1. then_filled (filled (chroma_offset_fillable 39 _ refl) (λ v2 b2. done_filled refl))));
}

-- sets no elements but those of row 41
pub colour_transform_offsets_keeps : Keeps colour_transform_offsets own.colour_transform_offsets_of
unfolding colour_transform_offsets
colour_transform_offsets_keeps = record {
  same = λ y. refl;
  last = λ x y z. refl;
  kept = λ y w. then_filled
      (filled (se_fillable _ refl _ _)
      (λ v1 b1. then_filled
      (filled (se_fillable _ refl _ _)
      (λ v2 b2. then_filled (filled (se_fillable _ refl _ _) (λ v3 b3. done_filled refl))))));
}

-- sets no elements but those of rows 35 to 40
pub quantiser_keeps : (pps : PlainPps) → Keeps (quantiser pps) own.quantiser_of
unfolding quantiser
quantiser_keeps pps = record {
  same = λ y. refl;
  last = λ x y z. refl;
  kept = λ y w. then_filled
      (filled (se_fillable _ refl _ _)
      (λ v1 b1. then_filled
      (filled (check_fillable _ _)
      (λ v2 b2. when_kept (chroma_offsets pps) own.chroma_offsets_of (chroma_offsets_keeps pps) _ _ (λ z3 b3. refl)))));
}

-- sets no elements but those of rows 41 and 42
pub extension_offsets_keeps : (pps : PlainPps) → Keeps (extension_offsets pps) own.extension_offsets_of
unfolding extension_offsets
extension_offsets_keeps pps = record {
  same = λ y. refl;
  last = λ x y z. refl;
  kept = λ y w. then_filled
      (when_kept colour_transform_offsets own.colour_transform_offsets_of colour_transform_offsets_keeps _ _
      (λ z1 b1. then_filled (filled (when_fillable _ _ (flag_fillable _ refl)) (λ v2 b2. done_filled refl))));
}

-- sets no elements but those of rows 35 to 42
pub quantisers_keeps : (pps : PlainPps) → Keeps (quantisers pps) own.quantisers_of
unfolding quantisers
quantisers_keeps pps = record {
  same = λ y. refl;
  last = λ x y z. refl;
  kept = λ y w. then_filled (part_kept (quantiser pps) own.quantiser_of (quantiser_keeps pps) _
      (λ z1 b1. part_kept (extension_offsets pps) own.extension_offsets_of (extension_offsets_keeps pps) _
      (λ z2 b2. refl)));
}

-- sets no elements but those of rows 45 and 46
pub filter_offsets_keeps : Keeps filter_offsets own.filter_offsets_of
unfolding filter_offsets
filter_offsets_keeps = record {
  same = λ y. refl;
  last = λ x y z. refl;
  kept = λ y w. then_filled
      (filled (se_fillable _ refl _ _)
      (λ v1 b1. then_filled (filled (se_fillable _ refl _ _) (λ v2 b2. done_filled refl))));
}

-- sets no elements but those of rows 44 to 46
pub own_deblocking_keeps : Keeps own_deblocking own.own_deblocking_of
unfolding own_deblocking
own_deblocking_keeps = record {
  same = λ y. refl;
  last = λ x y z. refl;
  kept = λ y w. then_filled
      (filled (flag_fillable _ refl)
      (λ v1 b1. when_kept filter_offsets own.filter_offsets_of filter_offsets_keeps _ _ (λ z2 b2. refl)));
}

-- sets no elements but those of row 47
pub across_slices_keeps : (pps : PlainPps) → Keeps (across_slices pps) own.across_slices_of
unfolding across_slices
across_slices_keeps pps = record {
  same = λ y. refl;
  last = λ x y z. refl;
  kept = λ y w. then_filled (filled (when_fillable _ _ (flag_fillable _ refl)) (λ v1 b1. done_filled refl));
}

-- sets no elements but those of rows 43 to 47
pub filters_keeps : (pps : PlainPps) → Keeps (filters pps) own.filters_of
unfolding filters
filters_keeps pps = record {
  same = λ y. refl;
  last = λ x y z. refl;
  kept = λ y w. then_filled (filled (when_fillable _ _ (flag_fillable _ refl))
      (λ v1 b1. then_filled (when_kept own_deblocking own.own_deblocking_of own_deblocking_keeps _ _
      (λ z2 b2. part_kept (across_slices pps) own.across_slices_of (across_slices_keeps pps) _ (λ z3 b3. refl)))));
}

-- sets no elements but those of rows 6 to 47, and which short-term set is the current one
pub independent_segment_keeps : (nalu_type : ℕ) (sps : PlainSps) (pps : PlainPps)
    → Keeps (own.independent_rows nalu_type sps pps) own.independent_segment_of
independent_segment_keeps nalu_type sps pps = record {
  same = λ y. refl;
  last = λ x y z. refl;
  kept = λ y w. then_filled (part_kept (kind sps pps) own.kind_of (kind_keeps sps pps) _
      (λ z1 b1. then_filled
      (when_kept (own.reference_picture_rows sps) own.reference_pictures_of
      (reference_pictures_keeps sps) _ _
      (λ z2 b2. then_filled
      (part_kept (adaptive_offset sps) own.adaptive_offset_of (adaptive_offset_keeps sps) _
      (λ z3 b3. then_filled (when_kept (prediction sps pps) own.prediction_of (prediction_keeps sps pps) _ _
      (λ z4 b4. then_filled (part_kept (quantisers pps) own.quantisers_of (quantisers_keeps pps) _
      (λ z5 b5. part_kept (filters pps) own.filters_of (filters_keeps pps) _ (λ z6 b6. refl)))))))))));
}

-- sets no elements but those of rows 49 and 50
pub entry_point_offsets_keeps : Keeps entry_point_offsets own.entry_point_offsets_of
unfolding entry_point_offsets
entry_point_offsets_keeps = record {
  same = λ y. refl;
  last = λ x y z. refl;
  kept = λ y w. then_filled
      (filled (ue_fillable _ refl _ _)
      (λ v1 b1. then_filled (filled (entry_points_fillable _ _) (λ v2 b2. done_filled refl))));
}

-- sets no elements but those of rows 48 to 50
pub parallel_parts_keeps : (sps : PlainSps) (pps : PlainPps) → Keeps (parallel_parts sps pps) own.parallel_parts_of
unfolding parallel_parts
parallel_parts_keeps sps pps = record {
  same = λ y. refl;
  last = λ x y z. refl;
  kept = λ y w. then_filled
      (filled (ue_fillable _ refl _ _)
      (λ v1 b1. when_kept entry_point_offsets own.entry_point_offsets_of entry_point_offsets_keeps _ _
      (λ z2 b2. refl)));
}

-- no extension is written
pub header_extension_filled : (h : PlainSliceSegmentHeader) (w : List Bool) {Q : PlainSliceSegmentHeader
    → List Bool → Type 0} → Q h (w ++ spelled ue 0) → EachFilling (header_extension h) w Q
unfolding header_extension ue_row skip_row is_chosen
header_extension_filled h w {Q = Q} q = record {
  all = λ z lines has good.
      let zeros = part_formed {k = λ length. part (skip_row (row 14 52) (8 * length)) (λ _. done h)}
      (element_formed (row 14 51) ue (in_range 0 256) (λ v. v) 0 refl (omega arith) refl)
      (part_formed (element_formed (row 14 52) (skip 0) (λ _. true) (λ _. 0) 0 refl (omega arith) refl)
      (done_formed h)) in
      let formed =
      subst (λ (y : PlainSliceSegmentHeader). IsFormed (header_extension h) y (spelled ue 0)) has.4.4.0
      (subst (λ (b : List Bool). IsFormed (header_extension h) h b) (append-nil (spelled ue 0)) zeros) in (
        spelled ue 0,
        none_filled (then_none (element_none _ _ _ _ refl)
            (λ length. then_none (element_none _ _ _ _ refl) (λ v. done_none))) formed lines,
        subst (λ (y : PlainSliceSegmentHeader). Q y (w ++ spelled ue 0)) has.4.4.0 q,
      );
}

-- sets no elements but those of rows 51 and 52
pub header_extension_keeps : Keeps header_extension own.header_extension_of
header_extension_keeps = record {
  same = λ y. refl;
  last = λ x y z. refl;
  kept = λ y w. header_extension_filled y w refl;
}

-- sets no elements but those of rows 48 to 52
pub ending_keeps : (sps : PlainSps) (pps : PlainPps) → Keeps (ending sps pps) own.ending_of
unfolding ending
ending_keeps sps pps = record {
  same = λ y. refl;
  last = λ x y z. refl;
  kept = λ y w. then_filled
      (when_kept (parallel_parts sps pps) own.parallel_parts_of (parallel_parts_keeps sps pps) _ _
      (λ z1 b1. when_kept header_extension own.header_extension_of header_extension_keeps _ _ (λ z2 b2. refl)));
}

-- sets no elements but those of rows 4 to 52, and what the sets infer
pub header_keeps : (nal_unit_type : ℕ) (sps : PlainSps) (pps : PlainPps)
    → Keeps (own.header_rows nal_unit_type sps pps) own.header_of
header_keeps nal_unit_type sps pps = record {
  same = λ y. refl;
  last = λ x y z. refl;
  kept = λ y w. then_filled
      (when_kept (later_segment sps pps) own.later_segment_of (later_segment_keeps sps pps) _ _ (λ z1 b1.
      then_filled (when_kept (own.independent_rows nal_unit_type sps pps) own.independent_segment_of
      (independent_segment_keeps nal_unit_type sps pps) _ _ (λ z2 b2.
      part_kept (ending sps pps) own.ending_of (ending_keeps sps pps) _ (λ z3 b3. refl)))));
}
