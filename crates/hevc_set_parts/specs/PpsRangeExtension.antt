use Rattle.hevc_records.specs.PpsRangeExtension.{PlainPpsRangeExtension}
use Rattle.hevc_set_parts.specs.declared.pps_range_extension.PpsRangeExtension.{PpsRangeExtension}

-- the values of its fields
abbrev pub plain_pps_range_extension : PpsRangeExtension → PlainPpsRangeExtension
plain_pps_range_extension r = record {
  log2_max_transform_skip_block_size_minus2 = r.log2_max_transform_skip_block_size_minus2;
  cross_component_prediction_enabled_flag = r.cross_component_prediction_enabled_flag;
  chroma_qp_offset_list_enabled_flag = r.chroma_qp_offset_list_enabled_flag;
  diff_cu_chroma_qp_offset_depth = r.diff_cu_chroma_qp_offset_depth;
  chroma_qp_offset_list_len_minus1 = r.chroma_qp_offset_list_len_minus1;
  cb_qp_offset_list = r.cb_qp_offset_list;
  cr_qp_offset_list = r.cr_qp_offset_list;
  log2_sao_offset_scale_luma = r.log2_sao_offset_scale_luma;
  log2_sao_offset_scale_chroma = r.log2_sao_offset_scale_chroma;
}
