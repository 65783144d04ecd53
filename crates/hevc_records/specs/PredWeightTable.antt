use Rattle.std.specs.Prelude.{ℕ, ℤ, pos, Bool, false, List, replicate}

-- The weights of a slice (H.265 7.3.6.3), with any numbers
pub record PlainPredWeightTable : Type 0 where
  pub luma_log2_weight_denom : ℕ
  pub delta_chroma_log2_weight_denom : ℤ
  pub chroma_log2_weight_denom : ℕ
  pub luma_weight_l0_flag : List Bool
  pub chroma_weight_l0_flag : List Bool
  pub delta_luma_weight_l0 : List ℤ
  pub luma_offset_l0 : List ℤ
  pub delta_chroma_weight_l0 : List (List ℤ)
  pub delta_chroma_offset_l0 : List (List ℤ)
  pub luma_weight_l1_flag : List Bool
  pub chroma_weight_l1_flag : List Bool
  pub delta_luma_weight_l1 : List ℤ
  pub luma_offset_l1 : List ℤ
  pub delta_chroma_weight_l1 : List (List ℤ)
  pub delta_chroma_offset_l1 : List (List ℤ)

-- the value where nothing was read
abbrev pub default_pred_weight_table : PlainPredWeightTable
default_pred_weight_table = record {
  luma_log2_weight_denom = 0;
  delta_chroma_log2_weight_denom = pos 0;
  chroma_log2_weight_denom = 0;
  luma_weight_l0_flag = replicate 15 false;
  chroma_weight_l0_flag = replicate 15 false;
  delta_luma_weight_l0 = replicate 15 (pos 0);
  luma_offset_l0 = replicate 15 (pos 0);
  delta_chroma_weight_l0 = replicate 15 (replicate 2 (pos 0));
  delta_chroma_offset_l0 = replicate 15 (replicate 2 (pos 0));
  luma_weight_l1_flag = replicate 15 false;
  chroma_weight_l1_flag = replicate 15 false;
  delta_luma_weight_l1 = replicate 15 (pos 0);
  luma_offset_l1 = replicate 15 (pos 0);
  delta_chroma_weight_l1 = replicate 15 (replicate 2 (pos 0));
  delta_chroma_offset_l1 = replicate 15 (replicate 2 (pos 0));
}
