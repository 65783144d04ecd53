-- What the parts of table 15 leave, and lists that grow.
use Rattle.std.proofs.Common.{◌≡◌, ℕ, ◌-◌, ◌<◌, Bool, List, length, get_or, refl}
use Rattle.std.specs.Prelude.{None}
use Rattle.hevc_spec.specs.declared.Row.{Row}
use Rattle.hevc_spec.specs.Table.{Table}
use Rattle.hevc_spec.specs.Rows.{bits_row}
use Rattle.hevc_tables.specs.MathFunctions.{ceil_log2}
use Rattle.hevc_tables.specs.RefPicListModificationTable.{list_entry, list_entries, modification_l0}
use Rattle.hevc_tables.specs.RefPicListModificationTable.{modification_l1}
use Rattle.hevc_tables.specs.RefPicListModificationTable.{ref_pic_list_modification}
use Rattle.hevc_write_elements.specs.Choices.{chosen_value}
use Rattle.hevc_write_elements.specs.Filling.{Keeps, WritesBits, WritesTable, WritesTurn, WritesTurns, are_first}
use Rattle.hevc_write_elements.proofs.Steps.{then_filled, kept_rows, IsFillable, bits_fillable}
use Rattle.hevc_write_elements.proofs.Steps.{bits_table, numbers, lists_decided, part_kept}
use Rattle.hevc_write_elements.proofs.Steps.{when_kept}
use Rattle.hevc_write_elements.proofs.Growing.{item_written, items_written, items_fillable}
use Rattle.hevc_write_slice_parts.specs.ListParts as own

module _ (r : Row) (kept : chosen_value r ≡ None) (n : ℕ) where
  -- one entry, as a table
  entry : ℕ → List ℕ → Table ℕ
  entry i entries = bits_row r (ceil_log2 n) 0 (n - 1)

  -- there are always lines of entry to write
  entry_fillable : (i : ℕ) (entries : List ℕ) → IsFillable (entry i entries)
  unfolding entry
  entry_fillable i entries = bits_fillable r kept (ceil_log2 n) 0 (n - 1)

  -- there are always lines of list entries to write
  pub entries_fillable : (count : ℕ) → IsFillable (list_entries r n count)
  unfolding list_entries list_entry entry
  entries_fillable count = items_fillable entry entry_fillable count

  -- one entry is written
  pub entry_written : (xs : List ℕ) (i : ℕ) {old new : List Bool} → i < length xs
      → WritesBits (ceil_log2 n) (get_or xs i 0) old new → WritesTurn (list_entry r n) (are_first xs) i old new
  unfolding list_entry entry
  entry_written xs i lt writes =
      item_written entry entry_fillable xs i 0 (lists_decided numbers) lt
      (bits_table r kept (ceil_log2 n) 0 (n - 1) writes)

  -- the whole of it is written once all its turns are
  pub entries_written : (xs : List ℕ) (count m : ℕ) {old new : List Bool}
      → WritesTurns (list_entry r n) (are_first xs) m old new → m ≡ length xs
      → WritesTable (list_entries r n count) xs old new
  unfolding list_entries list_entry entry
  entries_written xs count m turns e = items_written entry entry_fillable xs m count turns e

-- sets no elements but those of rows 1 and 2
pub modification_l0_keeps : (n active : ℕ) → Keeps (modification_l0 n active) own.modification_l0_of
unfolding modification_l0
modification_l0_keeps n active = record {
  same = λ y. refl;
  last = λ x y z. refl;
  kept = λ y w. search (kept_rows, entries_fillable) depth 40 fits 4000;
}

-- sets no elements but those of rows 3 and 4
pub modification_l1_keeps : (n active : ℕ) → Keeps (modification_l1 n active) own.modification_l1_of
unfolding modification_l1
modification_l1_keeps n active = record {
  same = λ y. refl;
  last = λ x y z. refl;
  kept = λ y w. search (kept_rows, entries_fillable) depth 40 fits 4000;
}

-- there are always lines of ref pic list modification to write
pub list_modification_fillable : (is_b : Bool) (n active_l0 active_l1 : ℕ)
    → IsFillable (ref_pic_list_modification is_b n active_l0 active_l1)
unfolding ref_pic_list_modification
list_modification_fillable is_b n active_l0 active_l1 = record {
  fill = λ w. then_filled
      (part_kept (modification_l0 n active_l0) own.modification_l0_of (modification_l0_keeps n active_l0) _ (λ z1 b1.
      when_kept (modification_l1 n active_l1) own.modification_l1_of (modification_l1_keeps n active_l1) _ _
      (λ z2 b2. tt)));
}
