use Rattle.std.specs.Prelude.{ℕ, ℤ, pos, Bool, false, List, replicate}

-- The range extension of a picture parameter set (H.265 7.3.2.3.2), with any numbers
pub record PlainPpsRangeExtension : Type 0 where
  pub log2_max_transform_skip_block_size_minus2 : ℕ
  pub cross_component_prediction_enabled_flag : Bool
  pub chroma_qp_offset_list_enabled_flag : Bool
  pub diff_cu_chroma_qp_offset_depth : ℕ
  pub chroma_qp_offset_list_len_minus1 : ℕ
  pub cb_qp_offset_list : List ℤ
  pub cr_qp_offset_list : List ℤ
  pub log2_sao_offset_scale_luma : ℕ
  pub log2_sao_offset_scale_chroma : ℕ

-- the value where nothing was read
abbrev pub default_pps_range_extension : PlainPpsRangeExtension
default_pps_range_extension = record {
  log2_max_transform_skip_block_size_minus2 = 0;
  cross_component_prediction_enabled_flag = false;
  chroma_qp_offset_list_enabled_flag = false;
  diff_cu_chroma_qp_offset_depth = 0;
  chroma_qp_offset_list_len_minus1 = 0;
  cb_qp_offset_list = replicate 6 (pos 0);
  cr_qp_offset_list = replicate 6 (pos 0);
  log2_sao_offset_scale_luma = 0;
  log2_sao_offset_scale_chroma = 0;
}
