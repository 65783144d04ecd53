-- The elements that each part of table 16 sets: those of one record, put into another.
use Rattle.std.specs.Prelude.{◌≡◌, ℕ}
use Rattle.hevc_records.specs.PredWeightTable.{PlainPredWeightTable}
use Rattle.hevc_tables.specs.WeightedPredictionTable as table
use Rattle.hevc_write_elements.specs.Filling.{SameBelow}
use Rattle.hevc_write_slice_parts.specs.declared.list_weights.ListWeights.{ListWeights}

abbrev pub plain_list_weights : ListWeights → table.ListWeights
plain_list_weights x = record {
  luma_weight_flag = x.luma_weight_flag;
  chroma_weight_flag = x.chroma_weight_flag;
  delta_luma_weight = x.delta_luma_weight;
  luma_offset = x.luma_offset;
  delta_chroma_weight = x.delta_chroma_weight;
  delta_chroma_offset = x.delta_chroma_offset;
}

-- the weights of list 0
abbrev pub list0_of : PlainPredWeightTable → table.ListWeights
list0_of t = record {
  luma_weight_flag = t.luma_weight_l0_flag;
  chroma_weight_flag = t.chroma_weight_l0_flag;
  delta_luma_weight = t.delta_luma_weight_l0;
  luma_offset = t.luma_offset_l0;
  delta_chroma_weight = t.delta_chroma_weight_l0;
  delta_chroma_offset = t.delta_chroma_offset_l0;
}

-- the weights of list 1
abbrev pub list1_of : PlainPredWeightTable → table.ListWeights
list1_of t = record {
  luma_weight_flag = t.luma_weight_l1_flag;
  chroma_weight_flag = t.chroma_weight_l1_flag;
  delta_luma_weight = t.delta_luma_weight_l1;
  luma_offset = t.luma_offset_l1;
  delta_chroma_weight = t.delta_chroma_weight_l1;
  delta_chroma_offset = t.delta_chroma_offset_l1;
}

-- rows 1 and 2
abbrev pub denominators_of : PlainPredWeightTable → PlainPredWeightTable → PlainPredWeightTable
denominators_of from x = record x {
  luma_log2_weight_denom = from.luma_log2_weight_denom;
  delta_chroma_log2_weight_denom = from.delta_chroma_log2_weight_denom;
  chroma_log2_weight_denom = from.chroma_log2_weight_denom;
}

-- row 3
abbrev pub luma_flags_of : table.ListWeights → table.ListWeights → table.ListWeights
luma_flags_of from x = record x { luma_weight_flag = from.luma_weight_flag }

-- row 4
abbrev pub chroma_flags_of : table.ListWeights → table.ListWeights → table.ListWeights
chroma_flags_of from x = record x { chroma_weight_flag = from.chroma_weight_flag }

-- rows 5 and 6
abbrev pub luma_weights_of : table.ListWeights → table.ListWeights → table.ListWeights
luma_weights_of from x = record x {
  delta_luma_weight = from.delta_luma_weight;
  luma_offset = from.luma_offset;
}

-- rows 7 and 8
abbrev pub chroma_weights_of : table.ListWeights → table.ListWeights → table.ListWeights
chroma_weights_of from x = record x {
  delta_chroma_weight = from.delta_chroma_weight;
  delta_chroma_offset = from.delta_chroma_offset;
}

-- rows 5 to 8
abbrev pub weights_of : table.ListWeights → table.ListWeights → table.ListWeights
weights_of from x = chroma_weights_of from (luma_weights_of from x)

-- rows 5 to 8, with rows 3 and 4
abbrev pub weights_with_inputs_of : table.ListWeights → table.ListWeights → table.ListWeights
weights_with_inputs_of from x = weights_of from (chroma_flags_of from (luma_flags_of from x))

-- row 3 of the first places is that of x, of so many
abbrev pub same_luma_flags : table.ListWeights → ℕ → table.ListWeights → Type 0
same_luma_flags x n z = SameBelow n z.luma_weight_flag x.luma_weight_flag

-- so is row 4
abbrev pub same_chroma_flags : table.ListWeights → ℕ → table.ListWeights → Type 0
same_chroma_flags x n z = SameBelow n z.chroma_weight_flag x.chroma_weight_flag

-- so are rows 5 and 6
abbrev pub same_luma : table.ListWeights → ℕ → table.ListWeights → Type 0
same_luma x n z =
    SameBelow n z.delta_luma_weight x.delta_luma_weight × SameBelow n z.luma_offset x.luma_offset

-- so are rows 7 and 8
abbrev pub same_chroma : table.ListWeights → ℕ → table.ListWeights → Type 0
same_chroma x n z =
    SameBelow n z.delta_chroma_weight x.delta_chroma_weight
    × SameBelow n z.delta_chroma_offset x.delta_chroma_offset

-- so are rows 5 to 8, and rows 3 and 4 of all places
pub record SameWeights (x : table.ListWeights) (n : ℕ) (z : table.ListWeights) : Type 0 where
  pub luma_flags : z.luma_weight_flag ≡ x.luma_weight_flag
  pub chroma_flags : z.chroma_weight_flag ≡ x.chroma_weight_flag
  pub luma : same_luma x n z
  pub chroma : same_chroma x n z
