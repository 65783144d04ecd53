use Rattle.std.specs.Prelude.{ℕ, ℤ, pos, Bool, false, List, replicate}

-- The screen content coding extension of a picture parameter set (H.265 7.3.2.3.3),
-- with any numbers
pub record PlainPpsSccExtension : Type 0 where
  pub curr_pic_ref_enabled_flag : Bool
  pub residual_adaptive_colour_transform_enabled_flag : Bool
  pub slice_act_qp_offsets_present_flag : Bool
  pub act_y_qp_offset_plus5 : ℤ
  pub act_cb_qp_offset_plus5 : ℤ
  pub act_cr_qp_offset_plus3 : ℤ
  pub palette_predictor_initializers_present_flag : Bool
  pub num_palette_predictor_initializers : ℕ
  pub monochrome_palette_flag : Bool
  pub luma_bit_depth_entry_minus8 : ℕ
  pub chroma_bit_depth_entry_minus8 : ℕ
  pub palette_predictor_initializer : List (List ℕ)

-- the value where nothing was read
abbrev pub default_pps_scc_extension : PlainPpsSccExtension
default_pps_scc_extension = record {
  curr_pic_ref_enabled_flag = false;
  residual_adaptive_colour_transform_enabled_flag = false;
  slice_act_qp_offsets_present_flag = false;
  act_y_qp_offset_plus5 = pos 0;
  act_cb_qp_offset_plus5 = pos 0;
  act_cr_qp_offset_plus3 = pos 0;
  palette_predictor_initializers_present_flag = false;
  num_palette_predictor_initializers = 0;
  monochrome_palette_flag = false;
  luma_bit_depth_entry_minus8 = 0;
  chroma_bit_depth_entry_minus8 = 0;
  palette_predictor_initializer = replicate 3 (replicate 128 0);
}
