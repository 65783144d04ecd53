use Rattle.hevc_records.specs.SublayerHrdParameters.{PlainSublayerHrdParameters}
use Rattle.hevc_video_set.specs.declared.sublayer_hrd_parameters.SublayerHrdParameters.{SublayerHrdParameters}

-- the values of its fields
abbrev pub plain_sublayer_hrd_parameters : SublayerHrdParameters → PlainSublayerHrdParameters
plain_sublayer_hrd_parameters r = record {
  bit_rate_value_minus1 = r.bit_rate_value_minus1;
  cpb_size_value_minus1 = r.cpb_size_value_minus1;
  cpb_size_du_value_minus1 = r.cpb_size_du_value_minus1;
  bit_rate_du_value_minus1 = r.bit_rate_du_value_minus1;
  cbr_flag = r.cbr_flag;
}
