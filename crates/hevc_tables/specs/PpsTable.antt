-- Picture parameter sets (7.3.2.3.1, table 11), with the sequence parameter set that they name.
-- Each part fills in its elements of a set; those that are absent stay.
use Rattle.std.specs.Prelude.{ℕ, pos, neg_ℤ, ◌+◌, ◌-◌, ◌*◌, ◌/◌, ◌==◌, min, not, if◌then◌else◌}
use Rattle.std.specs.Prelude.{List, ◌++◌, map, replicate, slice_set, Option, Some, None}
use Rattle.std.specs.List.{range_with_len}
use Rattle.hevc_spec.specs.declared.Row.{Row}
use Rattle.hevc_spec.specs.Table.{Table, done, missing, ◌>>=◌}
use Rattle.hevc_spec.specs.Rows.{row, flag_row, zero_row, bits_row, ue_row, se_row, skip_row, when}
use Rattle.hevc_spec.specs.Rows.{either, repeat}
use Rattle.hevc_records.specs.DefaultScalingLists.{default_lists}
use Rattle.hevc_records.specs.Pps.{PlainPps, default_pps}
use Rattle.hevc_records.specs.Sps.{PlainSps}
use Rattle.hevc_tables.specs.ScalingListTable.{scaling_list_data}
use Rattle.hevc_tables.specs.SpsTable.{sample_format}
use Rattle.hevc_tables.specs.PpsRangeExtensionTable.{pps_range_extension}
use Rattle.hevc_tables.specs.PpsSccExtensionTable.{pps_scc_extension}

-- ---- rows 1 and 2

-- the set that the element of a row names by its id, or that none of this id is kept (7.4.2.4.2)
unfoldable pub named : {A : Type 0} → Row → ℕ → Option A → Table A
named row id (Some set) = done set
named row id None = missing row id

-- rows 1 and 2: the ids of the set, and of the sequence set that it names
unfoldable pub ids : PlainPps → Table PlainPps
ids pps = do
  let pps = record pps { pic_parameter_set_id = (← ue_row (row 11 1) 0 63) }
  let pps = record pps { seq_parameter_set_id = (← ue_row (row 11 2) 0 15) }
  done pps

-- ---- rows 3 to 13

-- rows 3 to 7: which elements slice headers have, and the lengths of their lists
unfoldable pub presence : PlainPps → Table PlainPps
presence pps = do
  let pps = record pps { dependent_slice_segments_enabled_flag = (← flag_row (row 11 3)) }
  let pps = record pps { output_flag_present_flag = (← flag_row (row 11 3)) }
  let pps = record pps { num_extra_slice_header_bits = (← bits_row (row 11 4) 3 0 7) }
  let pps = record pps { sign_data_hiding_enabled_flag = (← flag_row (row 11 5)) }
  let pps = record pps { cabac_init_present_flag = (← flag_row (row 11 5)) }
  let pps = record pps { num_ref_idx_l0_default_active_minus1 = (← ue_row (row 11 6) 0 14) }
  let pps = record pps { num_ref_idx_l1_default_active_minus1 = (← ue_row (row 11 7) 0 14) }
  done pps

-- QpBdOffsetY (7-5)
abbrev pub qp_bd_offset_y : PlainSps → ℕ
qp_bd_offset_y sps = 6 * sps.bit_depth_luma_minus8

-- rows 8 to 12: the quantiser of luma, which QpBdOffsetY bounds, and the offsets of chroma
unfoldable pub quantiser : PlainSps → PlainPps → Table PlainPps
quantiser sps pps = do
  init_qp_minus26 ← se_row (row 11 8) (neg_ℤ (pos (26 + qp_bd_offset_y sps))) (pos 25)
  let pps = record pps { init_qp_minus26 = init_qp_minus26; qp_bd_offset_y = qp_bd_offset_y sps }
  let pps = record pps { constrained_intra_pred_flag = (← flag_row (row 11 9)) }
  let pps = record pps { transform_skip_enabled_flag = (← flag_row (row 11 9)) }
  let pps = record pps { cu_qp_delta_enabled_flag = (← flag_row (row 11 9)) }
  let pps = record pps {
    diff_cu_qp_delta_depth =
        (← when pps.cu_qp_delta_enabled_flag 0
        (ue_row (row 11 10) 0 sps.log2_diff_max_min_luma_coding_block_size));
  }
  let pps = record pps { cb_qp_offset = (← se_row (row 11 11) (neg_ℤ (pos 12)) (pos 12)) }
  let pps = record pps { cr_qp_offset = (← se_row (row 11 12) (neg_ℤ (pos 12)) (pos 12)) }
  done pps

-- row 13: tools
unfoldable pub tools : PlainPps → Table PlainPps
tools pps = do
  let pps = record pps { slice_chroma_qp_offsets_present_flag = (← flag_row (row 11 13)) }
  let pps = record pps { weighted_pred_flag = (← flag_row (row 11 13)) }
  let pps = record pps { weighted_bipred_flag = (← flag_row (row 11 13)) }
  let pps = record pps { transquant_bypass_enabled_flag = (← flag_row (row 11 13)) }
  let pps = record pps { tiles_enabled_flag = (← flag_row (row 11 13)) }
  let pps = record pps { entropy_coding_sync_enabled_flag = (← flag_row (row 11 13)) }
  done pps

-- ---- rows 14 to 19: tiles (6.5.1). A size is that of a column or a row,
-- in coding tree blocks and less 1.

-- part i of a length that is spread evenly over so many (6-3, 6-4)
abbrev pub even_size : ℕ → ℕ → ℕ → ℕ
even_size length count i = (i + 1) * length / count - i * length / count - 1

-- all parts of a length that is spread evenly, in so many places
abbrev pub even_sizes : ℕ → ℕ → ℕ → List ℕ
even_sizes places length count =
    map (even_size length count) (range_with_len 0 count) ++ replicate (places - count) 0

-- the sizes of some parts, and how many blocks they leave
pub record Parts : Type 0 where
  pub sizes : List ℕ
  pub left : ℕ

-- Part i, of which the element of a row tells the size. It leaves a block for the next: where one
-- is left, no size is allowed.
unfoldable pub told_size : Row → ℕ → Parts → Table Parts
told_size r i parts = do
  size ← ue_row r (if parts.left == 1 then 1 else 0) (parts.left - 2)
  done (record { sizes = slice_set parts.sizes i size; left = parts.left - (size + 1) })

-- the parts before the last one
unfoldable pub told_parts : Row → ℕ → ℕ → ℕ → Table Parts
told_parts r places length last =
    repeat (told_size r) 0 last (record { sizes = replicate places 0; left = length })

-- all parts: the last one takes what is left
unfoldable pub told_sizes : Row → ℕ → ℕ → ℕ → Table (List ℕ)
told_sizes r places length last = do
  parts ← told_parts r places length last
  done (slice_set parts.sizes last (parts.left - 1))

-- rows 14 to 16: at most 20 columns and 22 rows, and not more than there are blocks
unfoldable pub tile_counts : PlainSps → PlainPps → Table PlainPps
tile_counts sps pps = do
  let pps = record pps {
    num_tile_columns_minus1 = (← ue_row (row 11 14) 0 (min (sps.pic_width_in_ctbs_y - 1) 19));
  }
  let pps = record pps {
    num_tile_rows_minus1 = (← ue_row (row 11 15) 0 (min (sps.pic_height_in_ctbs_y - 1) 21));
  }
  let pps = record pps { uniform_spacing_flag = (← flag_row (row 11 16)) }
  done pps

-- no rows: columns and rows that are spread evenly
unfoldable pub with_even_tiles : PlainSps → PlainPps → PlainPps
with_even_tiles sps pps = record pps {
  column_width_minus1 = even_sizes 20 sps.pic_width_in_ctbs_y (pps.num_tile_columns_minus1 + 1);
  row_height_minus1 = even_sizes 22 sps.pic_height_in_ctbs_y (pps.num_tile_rows_minus1 + 1);
}

-- rows 17 and 18: columns and rows whose sizes the set tells
unfoldable pub told_tiles : PlainSps → PlainPps → Table PlainPps
told_tiles sps pps = do
  let pps = record pps {
    column_width_minus1 =
        (← told_sizes (row 11 17) 20 sps.pic_width_in_ctbs_y pps.num_tile_columns_minus1);
  }
  let pps = record pps {
    row_height_minus1 =
        (← told_sizes (row 11 18) 22 sps.pic_height_in_ctbs_y pps.num_tile_rows_minus1);
  }
  done pps

-- rows 14 to 19
unfoldable pub tiles : PlainSps → PlainPps → Table PlainPps
tiles sps pps = do
  pps ← tile_counts sps pps
  pps ← either pps.uniform_spacing_flag (done (with_even_tiles sps pps)) (told_tiles sps pps)
  let pps = record pps { loop_filter_across_tiles_enabled_flag = (← flag_row (row 11 19)) }
  done pps

-- ---- rows 20 to 28

-- rows 22 and 23: half the offsets of the deblocking parameters
unfoldable pub filter_offsets : PlainPps → Table PlainPps
filter_offsets pps = do
  let pps = record pps { beta_offset_div2 = (← se_row (row 11 22) (neg_ℤ (pos 6)) (pos 6)) }
  let pps = record pps { tc_offset_div2 = (← se_row (row 11 23) (neg_ℤ (pos 6)) (pos 6)) }
  done pps

-- rows 21 to 23
unfoldable pub deblocking : PlainPps → Table PlainPps
deblocking pps = do
  let pps = record pps { deblocking_filter_override_enabled_flag = (← flag_row (row 11 21)) }
  let pps = record pps { deblocking_filter_disabled_flag = (← flag_row (row 11 21)) }
  when (not pps.deblocking_filter_disabled_flag) pps (filter_offsets pps)

-- rows 20 to 23: the filters
unfoldable pub filters : PlainPps → Table PlainPps
filters pps = do
  let pps = record pps { loop_filter_across_slices_enabled_flag = (← flag_row (row 11 20)) }
  let pps = record pps { deblocking_filter_control_present_flag = (← flag_row (row 11 20)) }
  when pps.deblocking_filter_control_present_flag pps (deblocking pps)

-- rows 24 and 25: the scaling lists, which are the default ones where the set has none (7.4.5)
unfoldable pub scaling : PlainPps → Table PlainPps
scaling pps = do
  let pps = record pps { scaling_list_data_present_flag = (← flag_row (row 11 24)) }
  let pps = record pps {
    scaling_list = (← when pps.scaling_list_data_present_flag default_lists scaling_list_data);
  }
  done pps

-- rows 26 to 28, but for the last flag: what slice headers may have, and parallel merging
unfoldable pub merging : PlainSps → PlainPps → Table PlainPps
merging sps pps = do
  let pps = record pps { lists_modification_present_flag = (← flag_row (row 11 26)) }
  let pps = record pps {
    log2_parallel_merge_level_minus2 = (← ue_row (row 11 27) 0 (sps.ctb_log2_size_y - 2));
  }
  let pps = record pps { slice_segment_header_extension_present_flag = (← flag_row (row 11 28)) }
  done pps

-- ---- rows 28 to 35: extensions, whose flags all are before the first body

-- rows 29 to 33: which extensions the set has;
-- those for several layers and for three dimensions it may not have
unfoldable pub extension_flags : PlainPps → Table PlainPps
extension_flags pps = do
  let pps = record pps { range_extension_flag = (← flag_row (row 11 29)) }
  _ ← zero_row (row 11 30)
  _ ← zero_row (row 11 31)
  let pps = record pps { scc_extension_flag = (← flag_row (row 11 32)) }
  _ ← skip_row (row 11 33) 4
  done pps

-- row 34
unfoldable pub range_extension : PlainSps → PlainPps → Table PlainPps
range_extension sps pps = do
  let pps = record pps {
    range_extension = (← pps_range_extension sps pps.transform_skip_enabled_flag);
  }
  done pps

-- the greatest number of palette predictors (7.4.3.2.3)
abbrev pub max_palette_predictors : PlainSps → ℕ
max_palette_predictors sps =
    sps.scc_extension.palette_max_size + sps.scc_extension.delta_palette_max_predictor_size

-- row 35
unfoldable pub scc_extension : PlainSps → PlainPps → Table PlainPps
scc_extension sps pps = do
  let pps = record pps {
    scc_extension = (← pps_scc_extension (sample_format sps) (max_palette_predictors sps));
  }
  done pps

-- rows 29 to 35
unfoldable pub extension_data : PlainSps → PlainPps → Table PlainPps
extension_data sps pps = do
  pps ← extension_flags pps
  pps ← when pps.range_extension_flag pps (range_extension sps pps)
  when pps.scc_extension_flag pps (scc_extension sps pps)

-- the last flag of row 28, and rows 29 to 35
unfoldable pub extensions : PlainSps → PlainPps → Table PlainPps
extensions sps pps = do
  let pps = record pps { extension_present_flag = (← flag_row (row 11 28)) }
  when pps.extension_present_flag pps (extension_data sps pps)

-- ---- the table

-- rows 3 to 19: how pictures are coded
unfoldable pub coding : PlainSps → PlainPps → Table PlainPps
coding sps pps = do
  pps ← presence pps
  pps ← quantiser sps pps
  pps ← tools pps
  when pps.tiles_enabled_flag pps (tiles sps pps)

-- rows 3 to 35, after those that name the sequence set
unfoldable pub picture_set_of : PlainSps → PlainPps → Table PlainPps
picture_set_of sps pps = do
  pps ← coding sps pps
  pps ← filters pps
  pps ← scaling pps
  pps ← merging sps pps
  extensions sps pps

-- table 11 (7.3.2.3.1) of a set in a unit of this temporal id,
-- with the sequence sets that are kept, by their ids
unfoldable pub picture_parameter_set : ℕ → (ℕ → Option PlainSps) → Table PlainPps
picture_parameter_set temporal_id kept = do
  pps ← ids (record default_pps { temporal_id = temporal_id })
  sps ← named (row 11 2) pps.seq_parameter_set_id (kept pps.seq_parameter_set_id)
  picture_set_of sps pps
