use Rattle.std.proofs.Common.{refl}
use Rattle.hevc_tables.specs.SliceHeaderTable.{motion, prediction, reference_lists, weights}
use Rattle.hevc_write_slice_header.specs.HeaderParts as own
use Rattle.hevc_write_slice_header.proofs.HeaderKeeps.{motion_keeps, reference_lists_keeps, weights_keeps}
use Rattle.hevc_write_elements.proofs.Chains.{ending, part_of, writes_if, ◌>>=◌}
use Rattle.hevc_write_slice_header.proofs.prediction.write_prediction_if.Goals as goal

pub returns : goal.returns
unfolding prediction
returns c = writes_if c.if-not-present.false λ y w none. do
  rows ← part_of (reference_lists _ _) own.reference_lists_of
      (reference_lists_keeps _ _) _ none c.in_ok-write_reference_lists.ensures refl
  rows ← part_of (motion _) own.motion_of (motion_keeps _) _ rows.known c.in_ok-write_motion.ensures refl
  ending (part_of (weights _ _) own.weights_of
      (weights_keeps _ _) _ rows.known c.in_ok-write_weights.ensures refl) (λ _ _ rows e at. rows.reach _ e refl at)
