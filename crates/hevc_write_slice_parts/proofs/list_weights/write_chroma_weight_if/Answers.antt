use Rattle.std.proofs.Common.{refl, ◌∙◌, arith}
use Rattle.std.proofs.lemmas.Int.{ints}
use Rattle.hevc_tables.specs.WeightedPredictionTable.{chroma_weight, chroma_component}
use Rattle.hevc_write_elements.proofs.Steps.{then_filled, se_then, done_filled}
use Rattle.hevc_write_slice_parts.proofs.WeightKeeps.{both_components}
use Rattle.hevc_write_elements.proofs.Chains.{is_present}
use Rattle.hevc_write_slice_parts.proofs.list_weights.write_chroma_weight_if.Goals as goal

pub returns : goal.returns
unfolding chroma_weight chroma_component
returns c = λ sps list. is_present c.if-not-present.false (record {
  written = λ y w.
      then_filled (se_then _ refl _ _ c.in_ok-se_i8.ensures
      (λ v1 b1 weight_row. se_then _ refl _ _ c.in_ok-se_i16.ensures (λ v2 b2 offset_row. done_filled (
      se_then _ refl _ _ c.in_ok-se_i8-2.ensures
      (λ v3 b3 weight_row_2. se_then _ refl _ _ c.in_ok-se_i16-2.ensures (λ v4 b4 offset_row_2. done_filled (λ a.
      let weight = both_components y.delta_chroma_weight c.args.x.now.delta_chroma_weight c.args.i v1 v3
      (omega arith) c.are_pairs.ensures.0 a.0 in
      let offset = both_components y.delta_chroma_offset c.args.x.now.delta_chroma_offset c.args.i v2 v4
      (omega arith) c.are_pairs.ensures.1 a.1 in (
        (weight.0, offset.0),
        λ at. offset_row_2 (offset.2 ∙ omega (arith, ints))
            (weight_row_2 (weight.2 ∙ omega (arith, ints))
            (offset_row (offset.1 ∙ omega (arith, ints)) (weight_row (weight.1 ∙ omega (arith, ints)) at))),
      ))))))));
})
