use Rattle.std.specs.Prelude.{map}
use Rattle.hevc_records.specs.HrdParams.{PlainHrdParams}
use Rattle.hevc_video_set.specs.declared.hrd_params.HrdParams.{HrdParams}
use Rattle.hevc_video_set.specs.SublayerHrdParameters.{plain_sublayer_hrd_parameters}

-- the values of its fields
abbrev pub plain_hrd_params : HrdParams → PlainHrdParams
plain_hrd_params r = record {
  nal_hrd_parameters_present_flag = r.nal_hrd_parameters_present_flag;
  vcl_hrd_parameters_present_flag = r.vcl_hrd_parameters_present_flag;
  sub_pic_hrd_params_present_flag = r.sub_pic_hrd_params_present_flag;
  tick_divisor_minus2 = r.tick_divisor_minus2;
  du_cpb_removal_delay_increment_length_minus1 = r.du_cpb_removal_delay_increment_length_minus1;
  sub_pic_cpb_params_in_pic_timing_sei_flag = r.sub_pic_cpb_params_in_pic_timing_sei_flag;
  dpb_output_delay_du_length_minus1 = r.dpb_output_delay_du_length_minus1;
  bit_rate_scale = r.bit_rate_scale;
  cpb_size_scale = r.cpb_size_scale;
  cpb_size_du_scale = r.cpb_size_du_scale;
  initial_cpb_removal_delay_length_minus1 = r.initial_cpb_removal_delay_length_minus1;
  au_cpb_removal_delay_length_minus1 = r.au_cpb_removal_delay_length_minus1;
  dpb_output_delay_length_minus1 = r.dpb_output_delay_length_minus1;
  fixed_pic_rate_general_flag = r.fixed_pic_rate_general_flag;
  fixed_pic_rate_within_cvs_flag = r.fixed_pic_rate_within_cvs_flag;
  elemental_duration_in_tc_minus1 = r.elemental_duration_in_tc_minus1;
  low_delay_hrd_flag = r.low_delay_hrd_flag;
  cpb_cnt_minus1 = r.cpb_cnt_minus1;
  nal_hrd = map plain_sublayer_hrd_parameters r.nal_hrd;
  vcl_hrd = map plain_sublayer_hrd_parameters r.vcl_hrd;
}
