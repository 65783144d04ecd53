use Rattle.std.proofs.Common.{false, List, Bool, get_or, ap}
use Rattle.hevc_tables.specs.WeightedPredictionTable.{place_weights, luma_weight, chroma_weight}
use Rattle.hevc_write_elements.proofs.Steps.{then_filled}
use Rattle.hevc_write_elements.proofs.Loops.{when_turn_written}
use Rattle.hevc_write_slice_parts.specs.WeightParts as own
use Rattle.hevc_write_slice_parts.proofs.WeightKeeps.{luma_weight_keeps, chroma_weight_keeps, fewer_luma, fewer_chroma}
use Rattle.hevc_write_slice_parts.proofs.list_weights.write_place.Goals as goal

pub returns : goal.returns
unfolding place_weights
returns c = λ sps list.
    let x = own.plain_list_weights c.args.x.now in
    let i = c.args.i in
    record {
      written = λ y w.
          then_filled (when_turn_written (luma_weight sps list) (own.same_luma x) own.luma_weights_of i
          (luma_weight_keeps sps list i) y (fewer_luma x i y)
          (c.in_ok-write_luma_weight_if.ensures sps list) (λ v1 b1 luma_weights_rows.
          when_turn_written (chroma_weight sps list) (own.same_chroma x) own.chroma_weights_of i
          (chroma_weight_keeps sps list i) _ (fewer_chroma x i (own.luma_weights_of v1 y))
          (c.in_ok-write_chroma_weight_if.ensures sps list) (λ v2 b2 chroma_weights_rows a.
          let luma = luma_weights_rows (ap (λ (l : List Bool). get_or l i false) a.luma_flags) a.luma in
          let chroma = chroma_weights_rows (ap (λ (l : List Bool). get_or l i false) a.chroma_flags) a.chroma in (
            record {
              luma_flags = a.luma_flags;
              chroma_flags = a.chroma_flags;
              luma = luma.0;
              chroma = chroma.0;
            },
            λ at. chroma.1 (luma.1 at),
          ))));
    }
