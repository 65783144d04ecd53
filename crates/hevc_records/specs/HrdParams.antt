use Rattle.std.specs.Prelude.{ℕ, Bool, false, List, replicate}
use Rattle.hevc_records.specs.SublayerHrdParameters.{PlainSublayerHrdParameters}
use Rattle.hevc_records.specs.SublayerHrdParameters.{default_sublayer_hrd_parameters}

-- Parameters of the hypothetical reference decoder (H.265 E.2.2), with any numbers
pub record PlainHrdParams : Type 0 where
  pub nal_hrd_parameters_present_flag : Bool
  pub vcl_hrd_parameters_present_flag : Bool
  pub sub_pic_hrd_params_present_flag : Bool
  pub tick_divisor_minus2 : ℕ
  pub du_cpb_removal_delay_increment_length_minus1 : ℕ
  pub sub_pic_cpb_params_in_pic_timing_sei_flag : Bool
  pub dpb_output_delay_du_length_minus1 : ℕ
  pub bit_rate_scale : ℕ
  pub cpb_size_scale : ℕ
  pub cpb_size_du_scale : ℕ
  pub initial_cpb_removal_delay_length_minus1 : ℕ
  pub au_cpb_removal_delay_length_minus1 : ℕ
  pub dpb_output_delay_length_minus1 : ℕ
  pub fixed_pic_rate_general_flag : List Bool
  pub fixed_pic_rate_within_cvs_flag : List Bool
  pub elemental_duration_in_tc_minus1 : List ℕ
  pub low_delay_hrd_flag : List Bool
  pub cpb_cnt_minus1 : List ℕ
  pub nal_hrd : List PlainSublayerHrdParameters
  pub vcl_hrd : List PlainSublayerHrdParameters

-- the value where nothing was read
abbrev pub default_hrd_params : PlainHrdParams
default_hrd_params = record {
  nal_hrd_parameters_present_flag = false;
  vcl_hrd_parameters_present_flag = false;
  sub_pic_hrd_params_present_flag = false;
  tick_divisor_minus2 = 0;
  du_cpb_removal_delay_increment_length_minus1 = 0;
  sub_pic_cpb_params_in_pic_timing_sei_flag = false;
  dpb_output_delay_du_length_minus1 = 23;
  bit_rate_scale = 0;
  cpb_size_scale = 0;
  cpb_size_du_scale = 0;
  initial_cpb_removal_delay_length_minus1 = 23;
  au_cpb_removal_delay_length_minus1 = 23;
  dpb_output_delay_length_minus1 = 0;
  fixed_pic_rate_general_flag = replicate 7 false;
  fixed_pic_rate_within_cvs_flag = replicate 7 false;
  elemental_duration_in_tc_minus1 = replicate 7 0;
  low_delay_hrd_flag = replicate 7 false;
  cpb_cnt_minus1 = replicate 7 0;
  nal_hrd = replicate 7 default_sublayer_hrd_parameters;
  vcl_hrd = replicate 7 default_sublayer_hrd_parameters;
}
