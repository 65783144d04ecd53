use Rattle.std.specs.Prelude.{ℕ, Bool, false, List, []}

-- How a slice orders its reference picture lists (H.265 7.3.6.2), with any numbers
pub record PlainRefPicListModification : Type 0 where
  pub ref_pic_list_modification_flag_l0 : Bool
  pub list_entry_l0 : List ℕ
  pub ref_pic_list_modification_flag_l1 : Bool
  pub list_entry_l1 : List ℕ

-- the value where nothing was read
abbrev pub default_ref_pic_list_modification : PlainRefPicListModification
default_ref_pic_list_modification = record {
  ref_pic_list_modification_flag_l0 = false;
  list_entry_l0 = [];
  ref_pic_list_modification_flag_l1 = false;
  list_entry_l1 = [];
}
