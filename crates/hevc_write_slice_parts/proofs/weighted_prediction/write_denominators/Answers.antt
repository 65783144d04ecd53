use Rattle.std.proofs.Common.{arith, refl, ◌∙◌}
use Rattle.std.proofs.lemmas.Int.{ints}
use Rattle.hevc_tables.specs.WeightedPredictionTable.{denominators}
use Rattle.hevc_write_elements.proofs.Steps.{by, done_filled, se_if_then, ue_then}
use Rattle.hevc_write_slice_parts.proofs.weighted_prediction.write_denominators.Goals as goal

pub returns : goal.returns
unfolding denominators
returns c = λ sps is_chroma. record {
  written = λ y w.
      ue_then _ refl _ _ c.in_ok-ue_u8.ensures (λ v1 _ b1 luma_log2_weight_denom_row.
      se_if_then _ refl _ _ _ _ c.in_ok-se_i8_if.ensures (λ v2 b2 delta_chroma_log2_weight_denom_row.
      done_filled (λ e at.
      delta_chroma_log2_weight_denom_row is_chroma (by e (λ r. r.delta_chroma_log2_weight_denom)
      ∙ omega (arith, ints)) (luma_log2_weight_denom_row (by e (λ r. r.luma_log2_weight_denom)) at))));
}
