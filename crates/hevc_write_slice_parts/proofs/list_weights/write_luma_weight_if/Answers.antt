use Rattle.std.proofs.Common.{pos, refl, ◌∙◌, arith}
use Rattle.std.proofs.lemmas.Int.{ints}
use Rattle.hevc_tables.specs.WeightedPredictionTable.{luma_weight}
use Rattle.hevc_write_elements.proofs.Steps.{se_then, done_filled}
use Rattle.hevc_write_elements.proofs.Loops.{one_less}
use Rattle.hevc_write_elements.proofs.Chains.{is_present}
use Rattle.hevc_write_slice_parts.proofs.list_weights.write_luma_weight_if.Goals as goal

pub returns : goal.returns
unfolding luma_weight
returns c = λ sps list. is_present c.if-not-present.false (record {
  written = λ y w.
      se_then _ refl _ _ c.in_ok-se_i8.ensures
      (λ v1 b1 weight_row. se_then _ refl _ _ c.in_ok-se_i16.ensures (λ v2 b2 offset_row. done_filled (λ a.
      let weight = one_less c.args.i y.delta_luma_weight c.args.x.now.delta_luma_weight v1 (pos 0) (omega arith) a.0 in
      let offset = one_less c.args.i y.luma_offset c.args.x.now.luma_offset v2 (pos 0) (omega arith) a.1 in (
        (weight.0, offset.0),
        λ at. offset_row (offset.1 ∙ omega (arith, ints))
            (weight_row (weight.1 ∙ omega (arith, ints)) at),
      ))));
})
