-- Modifications of reference picture lists (7.3.6.2, table 15).
use Rattle.std.specs.Prelude.{ℕ, ◌+◌, ◌-◌, Bool, List, [], ◌∷◌, ◌++◌}
use Rattle.hevc_spec.specs.declared.Row.{Row}
use Rattle.hevc_spec.specs.Table.{Table, done, ◌>>=◌}
use Rattle.hevc_spec.specs.Rows.{row, flag_row, bits_row, when, repeat}
use Rattle.hevc_records.specs.RefPicListModification.{PlainRefPicListModification}
use Rattle.hevc_records.specs.RefPicListModification.{default_ref_pic_list_modification}
use Rattle.hevc_tables.specs.MathFunctions.{ceil_log2}

-- the entry of one more place, after those before it: one of so many pictures
unfoldable pub list_entry : Row → ℕ → ℕ → List ℕ → Table (List ℕ)
list_entry r num_pic_total_curr i entries = do
  entry ← bits_row r (ceil_log2 num_pic_total_curr) 0 (num_pic_total_curr - 1)
  done (entries ++ entry ∷ [])

-- the entries of so many places
unfoldable pub list_entries : Row → ℕ → ℕ → Table (List ℕ)
list_entries r num_pic_total_curr count = repeat (list_entry r num_pic_total_curr) 0 count []

-- rows 3 and 4: list 1, of so many pictures and active places less 1
unfoldable pub modification_l1 : ℕ → ℕ → PlainRefPicListModification
    → Table PlainRefPicListModification
modification_l1 num_pic_total_curr num_ref_idx_l1_active_minus1 m = do
  let m = record m { ref_pic_list_modification_flag_l1 = (← flag_row (row 15 3)) }
  let m = record m {
    list_entry_l1 =
        (← when m.ref_pic_list_modification_flag_l1 []
        (list_entries (row 15 4) num_pic_total_curr (num_ref_idx_l1_active_minus1 + 1)));
  }
  done m

-- rows 1 and 2: list 0
unfoldable pub modification_l0 : ℕ → ℕ → PlainRefPicListModification
    → Table PlainRefPicListModification
modification_l0 num_pic_total_curr num_ref_idx_l0_active_minus1 m = do
  let m = record m { ref_pic_list_modification_flag_l0 = (← flag_row (row 15 1)) }
  let m = record m {
    list_entry_l0 =
        (← when m.ref_pic_list_modification_flag_l0 []
        (list_entries (row 15 2) num_pic_total_curr (num_ref_idx_l0_active_minus1 + 1)));
  }
  done m

-- Table 15 (7.3.6.2): of a B slice or not, the number of pictures that it may refer to
-- (NumPicTotalCurr), and the active places of both lists, less 1
unfoldable pub ref_pic_list_modification : Bool → ℕ → ℕ → ℕ → Table PlainRefPicListModification
ref_pic_list_modification b num_pic_total_curr num_ref_idx_l0_active_minus1
    num_ref_idx_l1_active_minus1 = do
      m ← modification_l0 num_pic_total_curr num_ref_idx_l0_active_minus1
          default_ref_pic_list_modification
      when b m (modification_l1 num_pic_total_curr num_ref_idx_l1_active_minus1 m)
