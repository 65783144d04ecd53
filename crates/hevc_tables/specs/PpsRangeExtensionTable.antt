-- The range extension of picture parameter sets (7.3.2.3.2, table 12).
use Rattle.std.specs.Prelude.{ℕ, pos, neg_ℤ, ◌+◌, ◌-◌, Bool, slice_set}
use Rattle.hevc_spec.specs.Table.{Table, done, ◌>>=◌}
use Rattle.hevc_spec.specs.Rows.{row, flag_row, ue_row, se_row, when, repeat}
use Rattle.hevc_records.specs.PpsRangeExtension.{PlainPpsRangeExtension}
use Rattle.hevc_records.specs.PpsRangeExtension.{default_pps_range_extension}
use Rattle.hevc_records.specs.Sps.{PlainSps}

-- row 5 of pair i of chroma quantiser offsets
unfoldable pub offset_pair : ℕ → PlainPpsRangeExtension → Table PlainPpsRangeExtension
offset_pair i x = do
  cb ← se_row (row 12 5) (neg_ℤ (pos 12)) (pos 12)
  cr ← se_row (row 12 5) (neg_ℤ (pos 12)) (pos 12)
  done (record x {
    cb_qp_offset_list = slice_set x.cb_qp_offset_list i cb;
    cr_qp_offset_list = slice_set x.cr_qp_offset_list i cr;
  })

-- row 5 of so many pairs
unfoldable pub offset_pairs : ℕ → PlainPpsRangeExtension → Table PlainPpsRangeExtension
offset_pairs count x = repeat offset_pair 0 count x

-- rows 3 to 5: the chroma quantiser offsets that coding units may choose from
unfoldable pub offset_lists : PlainPpsRangeExtension → Table PlainPpsRangeExtension
offset_lists x = do
  let x = record x { diff_cu_chroma_qp_offset_depth = (← ue_row (row 12 3) 0 2147483647) }
  let x = record x { chroma_qp_offset_list_len_minus1 = (← ue_row (row 12 4) 0 5) }
  offset_pairs (x.chroma_qp_offset_list_len_minus1 + 1) x

-- table 12 (7.3.2.3.2) of a picture set that allows skipped transforms or not. Offsets of sample
-- adaptive filters are scaled only above a depth of 10 bits.
unfoldable pub pps_range_extension : PlainSps → Bool → Table PlainPpsRangeExtension
pps_range_extension sps transform_skip = do
  let x : PlainPpsRangeExtension = default_pps_range_extension
  let x = record x {
    log2_max_transform_skip_block_size_minus2 =
        (← when transform_skip 0 (ue_row (row 12 1) 0 (sps.max_tb_log2_size_y - 2)));
  }
  let x = record x { cross_component_prediction_enabled_flag = (← flag_row (row 12 2)) }
  let x = record x { chroma_qp_offset_list_enabled_flag = (← flag_row (row 12 2)) }
  x ← when x.chroma_qp_offset_list_enabled_flag x (offset_lists x)
  let x = record x {
    log2_sao_offset_scale_luma = (← ue_row (row 12 6) 0 (sps.bit_depth_luma_minus8 - 2));
  }
  let x = record x {
    log2_sao_offset_scale_chroma = (← ue_row (row 12 7) 0 (sps.bit_depth_chroma_minus8 - 2));
  }
  done x
