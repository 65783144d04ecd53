use Rattle.std.proofs.Common.{ap, sym, ◌∙◌}
use Rattle.hevc_tables.specs.ProfileTierLevelTable.{inbld}
use Rattle.hevc_write_set_parts.proofs.LayerKeeps.{layer_row, layer_zeros}
use Rattle.std.specs.Prelude.{not}
use Rattle.hevc_records.specs.ProfileConformance.{has_inbld_flag}
use Rattle.hevc_write_elements.proofs.Steps.{by, done_filled, flag_if_then, then_filled, zeros_if_written}
use Rattle.hevc_write_set_parts.proofs.layer.write_inbld.Goals as goal

pub returns : goal.returns
unfolding inbld
returns c = λ scope. record {
  written = λ y w.
      flag_if_then _ (layer_row scope _) _ _ c.in_ok-flag_if.ensures (λ v1 b1 inbld_flag_row.
      then_filled (zeros_if_written _ _ (layer_zeros scope 15 1) _ c.in_ok-zeros_if.ensures (λ b2 zeros_row.
      done_filled (λ e at.
      let present = by e (λ r. has_inbld_flag r.profile_idc r.profile_compatibility_flag)
      ∙ sym c.has_inbld-present.ensures in
      zeros_row (ap not present) (inbld_flag_row present (by e (λ r. r.inbld_flag)) at)))));
}
