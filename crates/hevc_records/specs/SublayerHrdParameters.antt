use Rattle.std.specs.Prelude.{ℕ, Bool, false, List, replicate}

-- The bit rates and buffer sizes of a sub-layer (H.265 E.2.3), with any numbers
pub record PlainSublayerHrdParameters : Type 0 where
  pub bit_rate_value_minus1 : List ℕ
  pub cpb_size_value_minus1 : List ℕ
  pub cpb_size_du_value_minus1 : List ℕ
  pub bit_rate_du_value_minus1 : List ℕ
  pub cbr_flag : List Bool

-- the value where nothing was read
abbrev pub default_sublayer_hrd_parameters : PlainSublayerHrdParameters
default_sublayer_hrd_parameters = record {
  bit_rate_value_minus1 = replicate 32 0;
  cpb_size_value_minus1 = replicate 32 0;
  cpb_size_du_value_minus1 = replicate 32 0;
  bit_rate_du_value_minus1 = replicate 32 0;
  cbr_flag = replicate 32 false;
}
