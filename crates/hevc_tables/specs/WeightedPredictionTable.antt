-- Weighted prediction (7.3.6.3, table 16).
use Rattle.std.specs.Prelude.{ℕ, ◌+◌, ◌-◌, ◌*◌, ◌==◌, ℤ, pos, neg_ℤ, ◌+ℤ◌, unsigned_abs, Bool}
use Rattle.std.specs.Prelude.{false, not, if◌then◌else◌, List, [], replicate, slice_set}
use Rattle.std.specs.Prelude.{slice_index_or}
use Rattle.hevc_spec.specs.Table.{Table, done, ◌>>=◌}
use Rattle.hevc_spec.specs.Rows.{row, flag_row, ue_row, se_row, when, repeat}
use Rattle.hevc_records.specs.PredWeightTable.{PlainPredWeightTable, default_pred_weight_table}
use Rattle.hevc_records.specs.Sps.{PlainSps}

-- The weights of one list, each for all places. Row numbers are those of list 0,
-- in list 1 six more.
pub record ListWeights : Type 0 where
  pub luma_weight_flag : List Bool
  pub chroma_weight_flag : List Bool
  pub delta_luma_weight : List ℤ
  pub luma_offset : List ℤ
  pub delta_chroma_weight : List (List ℤ)
  pub delta_chroma_offset : List (List ℤ)

-- no weights
abbrev pub no_weights : ListWeights
no_weights = record {
  luma_weight_flag = replicate 15 false;
  chroma_weight_flag = replicate 15 false;
  delta_luma_weight = replicate 15 (pos 0);
  luma_offset = replicate 15 (pos 0);
  delta_chroma_weight = replicate 15 (replicate 2 (pos 0));
  delta_chroma_offset = replicate 15 (replicate 2 (pos 0));
}

-- there are chroma planes that are coded with luma (ChromaArrayType isn't 0)
abbrev pub has_chroma : PlainSps → Bool
has_chroma sps = not (sps.chroma_array_type == 0)

-- ---- the flags: rows 3 and 4 of list 0, rows 9 and 10 of list 1

-- row 3 of place i
unfoldable pub luma_flag : ℕ → ℕ → ListWeights → Table ListWeights
luma_flag list i w = do
  flag ← flag_row (row 16 (6 * list + 3))
  done (record w { luma_weight_flag = slice_set w.luma_weight_flag i flag })

-- row 4 of place i
unfoldable pub chroma_flag : ℕ → ℕ → ListWeights → Table ListWeights
chroma_flag list i w = do
  flag ← flag_row (row 16 (6 * list + 4))
  done (record w { chroma_weight_flag = slice_set w.chroma_weight_flag i flag })

-- row 3 of so many places
unfoldable pub luma_flags : ℕ → ℕ → ListWeights → Table ListWeights
luma_flags list count w = repeat (luma_flag list) 0 count w

-- row 4 of so many places
unfoldable pub chroma_flags : ℕ → ℕ → ListWeights → Table ListWeights
chroma_flags list count w = repeat (chroma_flag list) 0 count w

-- rows 3 and 4 of so many places
unfoldable pub flags : PlainSps → ℕ → ℕ → Table ListWeights
flags sps list count = do
  w ← luma_flags list count no_weights
  when (has_chroma sps) w (chroma_flags list count w)

-- ---- weights and offsets: rows 5 to 8 of list 0, rows 11 to 14 of list 1

-- rows 5 and 6 of place i
unfoldable pub luma_weight : PlainSps → ℕ → ℕ → ListWeights → Table ListWeights
luma_weight sps list i w = do
  weight ← se_row (row 16 (6 * list + 5)) (neg_ℤ (pos 128)) (pos 127)
  offset ← se_row (row 16 (6 * list + 6)) (neg_ℤ (pos sps.wp_offset_half_range_y))
      (pos (sps.wp_offset_half_range_y - 1))
  done (record w {
    delta_luma_weight = slice_set w.delta_luma_weight i weight;
    luma_offset = slice_set w.luma_offset i offset;
  })

-- the array with component j of place i set
abbrev pub component_set : List (List ℤ) → ℕ → ℕ → ℤ → List (List ℤ)
component_set xss i j x = slice_set xss i (slice_set (slice_index_or xss i []) j x)

-- rows 7 and 8 of component j (Cb, Cr) of place i
unfoldable pub chroma_component : PlainSps → ℕ → ℕ → ℕ → ListWeights → Table ListWeights
chroma_component sps list i j w = do
  weight ← se_row (row 16 (6 * list + 7)) (neg_ℤ (pos 128)) (pos 127)
  offset ← se_row (row 16 (6 * list + 8)) (neg_ℤ (pos (4 * sps.wp_offset_half_range_c)))
      (pos (4 * sps.wp_offset_half_range_c - 1))
  done (record w {
    delta_chroma_weight = component_set w.delta_chroma_weight i j weight;
    delta_chroma_offset = component_set w.delta_chroma_offset i j offset;
  })

-- rows 7 and 8 of place i
unfoldable pub chroma_weight : PlainSps → ℕ → ℕ → ListWeights → Table ListWeights
chroma_weight sps list i w = do
  w ← chroma_component sps list i 0 w
  chroma_component sps list i 1 w

-- rows 5 to 8 of place i
unfoldable pub place_weights : PlainSps → ℕ → ℕ → ListWeights → Table ListWeights
place_weights sps list i w = do
  w ← when (slice_index_or w.luma_weight_flag i false) w (luma_weight sps list i w)
  when (slice_index_or w.chroma_weight_flag i false) w (chroma_weight sps list i w)

-- rows 5 to 8 of so many places
unfoldable pub weights : PlainSps → ℕ → ℕ → ListWeights → Table ListWeights
weights sps list count w = repeat (place_weights sps list) 0 count w

-- rows 3 to 8 of list 0, or those of list 1, of so many places
unfoldable pub list_weights : PlainSps → ℕ → ℕ → Table ListWeights
list_weights sps list count = do
  w ← flags sps list count
  weights sps list count w

-- ---- the table

-- rows 1 and 2: the denominators. ChromaLog2WeightDenom is their sum (7.4.7.3),
-- and 0 without chroma.
unfoldable pub denominators : PlainSps → PlainPredWeightTable → Table PlainPredWeightTable
denominators sps t = do
  luma ← ue_row (row 16 1) 0 7
  delta ← when (has_chroma sps) (pos 0) (se_row (row 16 2) (neg_ℤ (pos luma)) (pos 127))
  done (record t {
    luma_log2_weight_denom = luma;
    delta_chroma_log2_weight_denom = delta;
    chroma_log2_weight_denom = if has_chroma sps then unsigned_abs (pos luma +ℤ delta) else 0;
  })

-- these are the weights of list 0
unfoldable pub with_list0 : PlainPredWeightTable → ListWeights → PlainPredWeightTable
with_list0 t w = record t {
  luma_weight_l0_flag = w.luma_weight_flag;
  chroma_weight_l0_flag = w.chroma_weight_flag;
  delta_luma_weight_l0 = w.delta_luma_weight;
  luma_offset_l0 = w.luma_offset;
  delta_chroma_weight_l0 = w.delta_chroma_weight;
  delta_chroma_offset_l0 = w.delta_chroma_offset;
}

-- these are the weights of list 1
unfoldable pub with_list1 : PlainPredWeightTable → ListWeights → PlainPredWeightTable
with_list1 t w = record t {
  luma_weight_l1_flag = w.luma_weight_flag;
  chroma_weight_l1_flag = w.chroma_weight_flag;
  delta_luma_weight_l1 = w.delta_luma_weight;
  luma_offset_l1 = w.luma_offset;
  delta_chroma_weight_l1 = w.delta_chroma_weight;
  delta_chroma_offset_l1 = w.delta_chroma_offset;
}

-- Table 16 (7.3.6.3), with the sequence set: of a B slice or not,
-- and the active places of both lists, less 1
unfoldable pub pred_weight_table : PlainSps → Bool → ℕ → ℕ → Table PlainPredWeightTable
pred_weight_table sps b num_ref_idx_l0_active_minus1 num_ref_idx_l1_active_minus1 = do
  t ← denominators sps default_pred_weight_table
  w0 ← list_weights sps 0 (num_ref_idx_l0_active_minus1 + 1)
  let t = with_list0 t w0
  w1 ← when b no_weights (list_weights sps 1 (num_ref_idx_l1_active_minus1 + 1))
  done (with_list1 t w1)
