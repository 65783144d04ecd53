use Rattle.std.proofs.Common.{refl}
use Rattle.hevc_tables.specs.PpsTable.{scaling}
use Rattle.hevc_tables.specs.ScalingListTable.{scaling_list_data}
use Rattle.hevc_write_scaling.proofs.Coded.{scaling_lists_fillable}
use Rattle.hevc_write_elements.proofs.Steps.{by, done_filled, flag_then, then_filled, when_written}
use Rattle.hevc_write_pps.proofs.coding.write_scaling.Goals as goal

pub returns : goal.returns
unfolding scaling
returns c = record {
  written = λ y w.
      flag_then _ refl c.in_ok-flag.ensures (λ v1 b1 scaling_list_data_present_flag_row.
      then_filled (when_written scaling_list_data _ _ scaling_lists_fillable
      c.in_ok-write_scaling_lists_if.ensures (λ v2 b2 scaling_list_row.
      done_filled (λ e at.
      scaling_list_row (by e (λ r. r.scaling_list_data_present_flag)) (by e (λ r. r.scaling_list))
      (scaling_list_data_present_flag_row (by e (λ r. r.scaling_list_data_present_flag)) at)))));
}
