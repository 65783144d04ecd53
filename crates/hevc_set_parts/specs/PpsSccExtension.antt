use Rattle.hevc_records.specs.PpsSccExtension.{PlainPpsSccExtension}
use Rattle.hevc_set_parts.specs.declared.pps_scc_extension.PpsSccExtension.{PpsSccExtension}

-- the values of its fields
abbrev pub plain_pps_scc_extension : PpsSccExtension → PlainPpsSccExtension
plain_pps_scc_extension r = record {
  curr_pic_ref_enabled_flag = r.curr_pic_ref_enabled_flag;
  residual_adaptive_colour_transform_enabled_flag =
      r.residual_adaptive_colour_transform_enabled_flag;
  slice_act_qp_offsets_present_flag = r.slice_act_qp_offsets_present_flag;
  act_y_qp_offset_plus5 = r.act_y_qp_offset_plus5;
  act_cb_qp_offset_plus5 = r.act_cb_qp_offset_plus5;
  act_cr_qp_offset_plus3 = r.act_cr_qp_offset_plus3;
  palette_predictor_initializers_present_flag = r.palette_predictor_initializers_present_flag;
  num_palette_predictor_initializers = r.num_palette_predictor_initializers;
  monochrome_palette_flag = r.monochrome_palette_flag;
  luma_bit_depth_entry_minus8 = r.luma_bit_depth_entry_minus8;
  chroma_bit_depth_entry_minus8 = r.chroma_bit_depth_entry_minus8;
  palette_predictor_initializer = r.palette_predictor_initializer;
}
