use Rattle.std.specs.Prelude.{ℕ, ℤ, pos, List, replicate}

-- The scaling lists of a parameter set (H.265 7.3.4), with any numbers
pub record PlainScalingLists : Type 0 where
  pub scaling_list_dc_coef_minus8_16x16 : List ℤ
  pub scaling_list_dc_coef_minus8_32x32 : List ℤ
  pub scaling_list_4x4 : List (List ℕ)
  pub scaling_list_8x8 : List (List ℕ)
  pub scaling_list_16x16 : List (List ℕ)
  pub scaling_list_32x32 : List (List ℕ)

-- the value where nothing was read
abbrev pub zero_scaling_lists : PlainScalingLists
zero_scaling_lists = record {
  scaling_list_dc_coef_minus8_16x16 = replicate 6 (pos 0);
  scaling_list_dc_coef_minus8_32x32 = replicate 6 (pos 0);
  scaling_list_4x4 = replicate 6 (replicate 16 0);
  scaling_list_8x8 = replicate 6 (replicate 64 0);
  scaling_list_16x16 = replicate 6 (replicate 64 0);
  scaling_list_32x32 = replicate 6 (replicate 64 0);
}
