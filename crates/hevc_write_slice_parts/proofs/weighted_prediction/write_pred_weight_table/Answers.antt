use Rattle.std.proofs.Common.{refl, sym, ◌∙◌}
use Rattle.hevc_tables.specs.WeightedPredictionTable.{pred_weight_table, with_list0, with_list1, denominators}
use Rattle.hevc_write_slice_parts.specs.WeightParts as own
use Rattle.hevc_write_slice_parts.proofs.WeightKeeps.{denominators_keep, list_weights_fillable, of_places}
use Rattle.hevc_write_elements.proofs.Steps.{by, done_filled, part_then, table_then, then_filled}
use Rattle.hevc_write_elements.proofs.Steps.{when_written, where_present}
use Rattle.hevc_write_slice_parts.proofs.weighted_prediction.write_pred_weight_table.Goals as goal

pub returns : goal.returns
unfolding pred_weight_table with_list0 with_list1
returns c = λ sps is_chroma. record {
  written = λ w.
      part_then (denominators _) own.denominators_of (denominators_keep _) _
      (c.in_ok-write_denominators.ensures sps is_chroma) refl (λ v1 b1 denominators_rows.
      table_then (of_places sps 0 c.from-count0.ensures
      (c.in_ok-write_list_weights.ensures sps 0 is_chroma)) (λ v2 b2 own_row.
      then_filled (when_written _ _ _ (list_weights_fillable _ _ _)
      (where_present (of_places sps 1 c.from-count1.ensures)
      (c.in_ok-write_list_weights_if.ensures sps 1 is_chroma)) (λ v3 b3 own_row_2.
      done_filled (λ e at.
      own_row_2 refl (by e own.list1_of ∙ sym c.list1-list1.ensures)
      (own_row (by e own.list0_of ∙ sym c.list0-list0.ensures) (denominators_rows _ e refl at)))))));
}
