-- The elements that each part of table 15 sets: those of one record, put into another.
use Rattle.std.specs.Prelude.{◌≡◌, ℕ, Bool, List, None}
use Rattle.hevc_spec.specs.declared.Row.{Row}
use Rattle.hevc_records.specs.RefPicListModification.{PlainRefPicListModification}
use Rattle.hevc_tables.specs.RefPicListModificationTable.{list_entries}
use Rattle.hevc_write_elements.specs.Choices.{chosen_value}
use Rattle.hevc_write_elements.specs.Filling.{WritesTable}

-- rows 1 and 2
abbrev pub modification_l0_of : PlainRefPicListModification → PlainRefPicListModification
    → PlainRefPicListModification
modification_l0_of from x = record x {
  ref_pic_list_modification_flag_l0 = from.ref_pic_list_modification_flag_l0;
  list_entry_l0 = from.list_entry_l0;
}

-- rows 3 and 4
abbrev pub modification_l1_of : PlainRefPicListModification → PlainRefPicListModification
    → PlainRefPicListModification
modification_l1_of from x = record x {
  ref_pic_list_modification_flag_l1 = from.ref_pic_list_modification_flag_l1;
  list_entry_l1 = from.list_entry_l1;
}

-- Where the entries of a list of any length, of either row, are these, they are added.
pub record WritesEntries (num_pic_total_curr : ℕ) (entries : List ℕ) (old new : List Bool)
    : Type 0 where
  pub written : (r : Row) → chosen_value r ≡ None → (count : ℕ)
      → WritesTable (list_entries r num_pic_total_curr count) entries old new
