-- The elements that each part of table 12 sets: those of one record, put into another.
use Rattle.std.specs.Prelude.{ℕ}
use Rattle.hevc_records.specs.PpsRangeExtension.{PlainPpsRangeExtension}
use Rattle.hevc_write_elements.specs.Filling.{SameBelow}

-- row 5
abbrev pub offset_pairs_of : PlainPpsRangeExtension → PlainPpsRangeExtension
    → PlainPpsRangeExtension
offset_pairs_of from x = record x {
  cb_qp_offset_list = from.cb_qp_offset_list;
  cr_qp_offset_list = from.cr_qp_offset_list;
}

-- rows 3 to 5
abbrev pub offset_lists_of : PlainPpsRangeExtension → PlainPpsRangeExtension
    → PlainPpsRangeExtension
offset_lists_of from x = record (offset_pairs_of from x) {
  diff_cu_chroma_qp_offset_depth = from.diff_cu_chroma_qp_offset_depth;
  chroma_qp_offset_list_len_minus1 = from.chroma_qp_offset_list_len_minus1;
}

-- the first pairs are those of x, so many
abbrev pub same_pairs : PlainPpsRangeExtension → ℕ → PlainPpsRangeExtension → Type 0
same_pairs x n z =
    SameBelow n z.cb_qp_offset_list x.cb_qp_offset_list
    × SameBelow n z.cr_qp_offset_list x.cr_qp_offset_list
