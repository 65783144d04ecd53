use Rattle.hevc_records.specs.SpsSccExtension.{PlainSpsSccExtension}
use Rattle.hevc_sequence_set.specs.declared.sps_scc_extension.SpsSccExtension.{SpsSccExtension}

-- the values of its fields
abbrev pub plain_sps_scc_extension : SpsSccExtension → PlainSpsSccExtension
plain_sps_scc_extension r = record {
  curr_pic_ref_enabled_flag = r.curr_pic_ref_enabled_flag;
  palette_mode_enabled_flag = r.palette_mode_enabled_flag;
  palette_max_size = r.palette_max_size;
  delta_palette_max_predictor_size = r.delta_palette_max_predictor_size;
  palette_predictor_initializers_present_flag = r.palette_predictor_initializers_present_flag;
  num_palette_predictor_initializer_minus1 = r.num_palette_predictor_initializer_minus1;
  palette_predictor_initializer = r.palette_predictor_initializer;
  motion_vector_resolution_control_idc = r.motion_vector_resolution_control_idc;
  intra_boundary_filtering_disabled_flag = r.intra_boundary_filtering_disabled_flag;
}
