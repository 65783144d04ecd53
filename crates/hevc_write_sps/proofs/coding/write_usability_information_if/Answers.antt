use Rattle.std.proofs.Common.{refl}
use Rattle.hevc_tables.specs.SpsTable.{usability_information}
use Rattle.hevc_tables.specs.VuiTable.{vui_parameters}
use Rattle.hevc_write_set_parts.proofs.VuiKeeps.{vui_fillable}
use Rattle.hevc_write_elements.proofs.Steps.{by, done_filled, numbers, one_table_written, then_filled}
use Rattle.hevc_write_elements.proofs.Chains.{is_present}
use Rattle.hevc_write_sps.proofs.coding.write_usability_information_if.Goals as goal

pub returns : goal.returns
unfolding usability_information
returns c = is_present c.if-not-present.false (record {
  written = λ y w.
      then_filled (one_table_written vui_parameters vui_fillable _ _
      (numbers _ _) c.in_ok-write_vui_parameters.ensures (λ v1 b1 vui_parameters_row.
      done_filled (λ e at.
      vui_parameters_row (by e (λ r. r.max_sub_layers_minus1)) (by e (λ r. r.vui_parameters)) at)));
})
