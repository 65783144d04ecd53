use Rattle.std.specs.Prelude.{ℕ, Bool, false, List, replicate}

-- The screen content coding extension of a sequence parameter set (H.265 7.3.2.2.3),
-- with any numbers
pub record PlainSpsSccExtension : Type 0 where
  pub curr_pic_ref_enabled_flag : Bool
  pub palette_mode_enabled_flag : Bool
  pub palette_max_size : ℕ
  pub delta_palette_max_predictor_size : ℕ
  pub palette_predictor_initializers_present_flag : Bool
  pub num_palette_predictor_initializer_minus1 : ℕ
  pub palette_predictor_initializer : List (List ℕ)
  pub motion_vector_resolution_control_idc : ℕ
  pub intra_boundary_filtering_disabled_flag : Bool

-- the value where nothing was read
abbrev pub default_sps_scc_extension : PlainSpsSccExtension
default_sps_scc_extension = record {
  curr_pic_ref_enabled_flag = false;
  palette_mode_enabled_flag = false;
  palette_max_size = 0;
  delta_palette_max_predictor_size = 0;
  palette_predictor_initializers_present_flag = false;
  num_palette_predictor_initializer_minus1 = 0;
  palette_predictor_initializer = replicate 3 (replicate 128 0);
  motion_vector_resolution_control_idc = 0;
  intra_boundary_filtering_disabled_flag = false;
}
