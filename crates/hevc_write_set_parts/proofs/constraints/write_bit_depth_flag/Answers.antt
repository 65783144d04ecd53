use Rattle.std.proofs.Common.{sym, ◌∙◌}
use Rattle.hevc_tables.specs.ProfileTierLevelTable.{bit_depth_flag, has_14bit_flag}
use Rattle.hevc_write_set_parts.proofs.LayerKeeps.{layer_row, layer_zeros}
use Rattle.hevc_write_elements.proofs.Steps.{by, done_filled, either_zeros_written, flag_if_then, then_filled}
use Rattle.hevc_write_set_parts.proofs.constraints.write_bit_depth_flag.Goals as goal

pub returns : goal.returns
unfolding bit_depth_flag
returns c = λ scope. record {
  written = λ y w.
      flag_if_then _ (layer_row scope _) _ _ c.in_ok-flag_if.ensures (λ v1 b1 max_14bit_constraint_flag_row.
      then_filled (either_zeros_written _ _ _ _ (layer_zeros scope 8 33)
      (layer_zeros scope 9 34) _ c.in_ok-write_either_zeros.ensures (λ b2 either_zeros_row.
      done_filled (λ e at.
      let present = by e has_14bit_flag ∙ sym c.has_14bit-present.ensures in
      either_zeros_row present (max_14bit_constraint_flag_row present (by e (λ r. r.max_14bit_constraint_flag)) at)))));
}
