-- The weights of a slice (7.3.6.3) by its header.
use Rattle.hevc_spec.specs.Table.{Table}
use Rattle.hevc_spec.specs.Rows.{when}
use Rattle.hevc_records.specs.Pps.{PlainPps}
use Rattle.hevc_records.specs.PredWeightTable.{PlainPredWeightTable, default_pred_weight_table}
use Rattle.hevc_records.specs.SliceHeader.{PlainSliceSegmentHeader}
use Rattle.hevc_records.specs.Sps.{PlainSps}
use Rattle.hevc_tables.specs.SliceHeaderTable.{is_weighted}
use Rattle.hevc_tables.specs.SliceTypes.{is_b}
use Rattle.hevc_tables.specs.WeightedPredictionTable.{pred_weight_table}

-- table 16, with the sequence set, as a header of this type and these active places has it
abbrev pub weights_of : PlainSps → PlainSliceSegmentHeader → Table PlainPredWeightTable
weights_of sps h =
    pred_weight_table sps (is_b h.type_) h.num_ref_idx_l0_active_minus1
    h.num_ref_idx_l1_active_minus1

-- those of row 32: the default ones where the slice isn't weighted
abbrev pub weights_if_weighted : PlainSps → PlainPps → PlainSliceSegmentHeader
    → Table PlainPredWeightTable
weights_if_weighted sps pps h =
    when (is_weighted pps h.type_) default_pred_weight_table (weights_of sps h)
