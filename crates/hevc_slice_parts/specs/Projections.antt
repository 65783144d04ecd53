-- The weights of a list as those of the table.
use Rattle.hevc_tables.specs.WeightedPredictionTable as table
use Rattle.hevc_slice_parts.specs.declared.records.ListWeights.{ListWeights}

abbrev pub plain_list_weights : ListWeights → table.ListWeights
plain_list_weights w = record {
  luma_weight_flag = w.luma_weight_flag;
  chroma_weight_flag = w.chroma_weight_flag;
  delta_luma_weight = w.delta_luma_weight;
  luma_offset = w.luma_offset;
  delta_chroma_weight = w.delta_chroma_weight;
  delta_chroma_offset = w.delta_chroma_offset;
}
