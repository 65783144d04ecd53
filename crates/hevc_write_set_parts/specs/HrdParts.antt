-- The elements that each part of tables 3 and 4 sets: those of one record, put into another.
use Rattle.std.specs.Prelude.{◌≡◌, ℕ}
use Rattle.hevc_records.specs.HrdParams.{PlainHrdParams}
use Rattle.hevc_records.specs.SublayerHrdParameters.{PlainSublayerHrdParameters}
use Rattle.hevc_write_elements.specs.Filling.{SameBelow}

-- the first schedules of table 4 are those of x, so many
abbrev pub same_schedules : PlainSublayerHrdParameters → ℕ → PlainSublayerHrdParameters → Type 0
same_schedules x n z =
    SameBelow n z.bit_rate_value_minus1 x.bit_rate_value_minus1
    × SameBelow n z.cpb_size_value_minus1 x.cpb_size_value_minus1
    × SameBelow n z.cpb_size_du_value_minus1 x.cpb_size_du_value_minus1
    × SameBelow n z.bit_rate_du_value_minus1 x.bit_rate_du_value_minus1
    × SameBelow n z.cbr_flag x.cbr_flag

-- rows 3 to 6
abbrev pub decoding_units_of : PlainHrdParams → PlainHrdParams → PlainHrdParams
decoding_units_of from x = record x {
  tick_divisor_minus2 = from.tick_divisor_minus2;
  du_cpb_removal_delay_increment_length_minus1 = from.du_cpb_removal_delay_increment_length_minus1;
  sub_pic_cpb_params_in_pic_timing_sei_flag = from.sub_pic_cpb_params_in_pic_timing_sei_flag;
  dpb_output_delay_du_length_minus1 = from.dpb_output_delay_du_length_minus1;
}

-- rows 7 to 9
abbrev pub scales_of : PlainHrdParams → PlainHrdParams → PlainHrdParams
scales_of from x = record x {
  bit_rate_scale = from.bit_rate_scale;
  cpb_size_scale = from.cpb_size_scale;
  cpb_size_du_scale = from.cpb_size_du_scale;
  initial_cpb_removal_delay_length_minus1 = from.initial_cpb_removal_delay_length_minus1;
  au_cpb_removal_delay_length_minus1 = from.au_cpb_removal_delay_length_minus1;
  dpb_output_delay_length_minus1 = from.dpb_output_delay_length_minus1;
}

-- rows 7 to 9, with row 2
abbrev pub scales_with_inputs_of : PlainHrdParams → PlainHrdParams → PlainHrdParams
scales_with_inputs_of from x = record (scales_of from x) {
  sub_pic_hrd_params_present_flag = from.sub_pic_hrd_params_present_flag;
}

-- rows 2 to 9
abbrev pub buffering_of : PlainHrdParams → PlainHrdParams → PlainHrdParams
buffering_of from x = decoding_units_of from (scales_with_inputs_of from x)

-- rows 1 to 9
abbrev pub common_parameters_of : PlainHrdParams → PlainHrdParams → PlainHrdParams
common_parameters_of from x = record (buffering_of from x) {
  nal_hrd_parameters_present_flag = from.nal_hrd_parameters_present_flag;
  vcl_hrd_parameters_present_flag = from.vcl_hrd_parameters_present_flag;
}

-- rows 10 to 16
abbrev pub sub_layers_of : PlainHrdParams → PlainHrdParams → PlainHrdParams
sub_layers_of from x = record x {
  fixed_pic_rate_general_flag = from.fixed_pic_rate_general_flag;
  fixed_pic_rate_within_cvs_flag = from.fixed_pic_rate_within_cvs_flag;
  elemental_duration_in_tc_minus1 = from.elemental_duration_in_tc_minus1;
  low_delay_hrd_flag = from.low_delay_hrd_flag;
  cpb_cnt_minus1 = from.cpb_cnt_minus1;
  nal_hrd = from.nal_hrd;
  vcl_hrd = from.vcl_hrd;
}

-- rows 10 to 16, with rows 1 and 2
abbrev pub sub_layers_with_inputs_of : PlainHrdParams → PlainHrdParams → PlainHrdParams
sub_layers_with_inputs_of from x = record (sub_layers_of from x) {
  nal_hrd_parameters_present_flag = from.nal_hrd_parameters_present_flag;
  vcl_hrd_parameters_present_flag = from.vcl_hrd_parameters_present_flag;
  sub_pic_hrd_params_present_flag = from.sub_pic_hrd_params_present_flag;
}

-- the rows that those of a sub-layer go by are those of x
pub record SameCommon (x z : PlainHrdParams) : Type 0 where
  pub nal : z.nal_hrd_parameters_present_flag ≡ x.nal_hrd_parameters_present_flag
  pub vcl : z.vcl_hrd_parameters_present_flag ≡ x.vcl_hrd_parameters_present_flag
  pub units : z.sub_pic_hrd_params_present_flag ≡ x.sub_pic_hrd_params_present_flag

-- so are the rows of the first sub-layers, of so many
abbrev pub same_sub_layers : PlainHrdParams → ℕ → PlainHrdParams → Type 0
same_sub_layers x n z =
    SameCommon x z
    × SameBelow n z.fixed_pic_rate_general_flag x.fixed_pic_rate_general_flag
    × SameBelow n z.fixed_pic_rate_within_cvs_flag x.fixed_pic_rate_within_cvs_flag
    × SameBelow n z.elemental_duration_in_tc_minus1 x.elemental_duration_in_tc_minus1
    × SameBelow n z.low_delay_hrd_flag x.low_delay_hrd_flag
    × SameBelow n z.cpb_cnt_minus1 x.cpb_cnt_minus1
    × SameBelow n z.nal_hrd x.nal_hrd
    × SameBelow n z.vcl_hrd x.vcl_hrd
