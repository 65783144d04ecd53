use Rattle.hevc_records.specs.PredWeightTable.{PlainPredWeightTable}
use Rattle.hevc_video_set.specs.declared.pred_weight_table.PredWeightTable.{PredWeightTable}

-- the values of its fields
abbrev pub plain_pred_weight_table : PredWeightTable → PlainPredWeightTable
plain_pred_weight_table r = record {
  luma_log2_weight_denom = r.luma_log2_weight_denom;
  delta_chroma_log2_weight_denom = r.delta_chroma_log2_weight_denom;
  chroma_log2_weight_denom = r.chroma_log2_weight_denom;
  luma_weight_l0_flag = r.luma_weight_l0_flag;
  chroma_weight_l0_flag = r.chroma_weight_l0_flag;
  delta_luma_weight_l0 = r.delta_luma_weight_l0;
  luma_offset_l0 = r.luma_offset_l0;
  delta_chroma_weight_l0 = r.delta_chroma_weight_l0;
  delta_chroma_offset_l0 = r.delta_chroma_offset_l0;
  luma_weight_l1_flag = r.luma_weight_l1_flag;
  chroma_weight_l1_flag = r.chroma_weight_l1_flag;
  delta_luma_weight_l1 = r.delta_luma_weight_l1;
  luma_offset_l1 = r.luma_offset_l1;
  delta_chroma_weight_l1 = r.delta_chroma_weight_l1;
  delta_chroma_offset_l1 = r.delta_chroma_offset_l1;
}
