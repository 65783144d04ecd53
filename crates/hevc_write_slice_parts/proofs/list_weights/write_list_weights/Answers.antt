use Rattle.std.proofs.Common.{refl}
use Rattle.hevc_tables.specs.WeightedPredictionTable.{list_weights, flags, luma_flags, chroma_flags, weights}
use Rattle.hevc_write_slice_parts.specs.WeightParts as own
use Rattle.hevc_write_slice_parts.proofs.WeightKeeps.{luma_flags_keep, chroma_flags_keep, weights_keep}
use Rattle.hevc_write_elements.proofs.Steps.{part_then, part_written, then_filled, when_part_written}
use Rattle.hevc_write_slice_parts.proofs.list_weights.write_list_weights.Goals as goal

pub returns : goal.returns
unfolding list_weights flags
returns c = λ sps list is_chroma. record {
  written = λ w.
      then_filled (part_then (luma_flags _ _) own.luma_flags_of (luma_flags_keep _ _) _
      (c.in_ok-write_luma_flags.ensures list) refl (λ v1 b1 luma_flags_rows.
      when_part_written (chroma_flags _ _) own.chroma_flags_of (chroma_flags_keep _ _) _
      (c.in_ok-write_chroma_flags_if.ensures list) refl (λ v2 b2 chroma_flags_rows.
      part_written (weights _ _ _) own.weights_of (weights_keep _ _ _) _
      (c.in_ok-write_weights.ensures sps list) refl (λ v3 b3 weights_rows e at.
      weights_rows _ e refl (chroma_flags_rows is_chroma _ e refl (luma_flags_rows _ e refl at))))));
}
