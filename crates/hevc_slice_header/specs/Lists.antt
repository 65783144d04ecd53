-- Reference picture lists whose order a header tells (7.4.7.2).
use Rattle.std.specs.Prelude.{ℕ, IsTrue}
use Rattle.hevc_records.specs.RefPicListModification.{PlainRefPicListModification}
use Rattle.hevc_records.specs.SliceHeader.{PlainSliceSegmentHeader}
use Rattle.hevc_slice_parts.specs.Entries.{HasEntries}

-- A list whose order is signalled has an entry for each active place, each one of the pictures.
pub record IsOrdered (num_pic_total_curr l0_active_minus1 l1_active_minus1 : ℕ)
    (m : PlainRefPicListModification) : Type 0 where
  pub l0 : IsTrue m.ref_pic_list_modification_flag_l0
      → HasEntries num_pic_total_curr l0_active_minus1 m.list_entry_l0
  pub l1 : IsTrue m.ref_pic_list_modification_flag_l1
      → HasEntries num_pic_total_curr l1_active_minus1 m.list_entry_l1

-- So have the lists of the header.
abbrev pub HasLists : PlainSliceSegmentHeader → Type 0
HasLists h =
    IsOrdered h.num_pic_total_curr h.num_ref_idx_l0_active_minus1 h.num_ref_idx_l1_active_minus1
    h.ref_pic_list_modification
