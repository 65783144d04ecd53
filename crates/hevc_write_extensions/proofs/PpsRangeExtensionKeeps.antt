-- What the parts of table 12 leave.
use Rattle.std.proofs.Common.{◌≡◌, ℕ, List, Bool, refl, subst}
use Rattle.hevc_tables.specs.PpsRangeExtensionTable.{offset_pair, offset_pairs, offset_lists}
use Rattle.hevc_records.specs.PpsRangeExtension.{PlainPpsRangeExtension}
use Rattle.hevc_write_elements.specs.Filling.{Keeps, Writes, WritesTurns}
use Rattle.hevc_write_elements.proofs.Steps.{kept_rows, part_kept, by}
use Rattle.hevc_write_elements.proofs.Loops.{turns_keep, all_turns, all_same}
use Rattle.hevc_write_extensions.specs.PpsRangeExtensionParts as own

-- sets no elements but those of row 5
pub offset_pair_keeps : (i : ℕ) → Keeps (offset_pair i) own.offset_pairs_of
unfolding offset_pair
offset_pair_keeps i = record {
  same = λ y. refl;
  last = λ x y z. refl;
  kept = λ y w. search kept_rows depth 40 fits 4000;
}

-- sets no elements but those of row 5
pub offset_pairs_keep : (n : ℕ) → Keeps (offset_pairs n) own.offset_pairs_of
unfolding offset_pairs
offset_pairs_keep n = turns_keep offset_pair own.offset_pairs_of offset_pair_keeps n

-- sets no elements but those of rows 3 to 5
pub offset_lists_keep : Keeps offset_lists own.offset_lists_of
unfolding offset_lists
offset_lists_keep = record {
  same = λ y. refl;
  last = λ x y z. refl;
  kept = λ y w. search
      (kept_rows, λ (n : ℕ). part_kept (offset_pairs n) own.offset_pairs_of (offset_pairs_keep n)) depth 40 fits 4000;
}

-- the whole of it is written once all its turns are
pub offset_pairs_written : (x : PlainPpsRangeExtension) (n count : ℕ) (old new : List Bool)
    → WritesTurns offset_pair (own.same_pairs x) n old new → n ≡ count
    → Writes (offset_pairs count) own.offset_pairs_of x old new
unfolding offset_pairs
offset_pairs_written x n count old new h e =
    subst (λ (k : ℕ). Writes (offset_pairs k) own.offset_pairs_of x old new) e
    (all_turns offset_pair (own.same_pairs x)
    (λ z e. (all_same _ _ _ (by e (λ r. r.cb_qp_offset_list)), all_same _ _ _ (by e (λ r. r.cr_qp_offset_list)))) h)
