use Rattle.std.proofs.Common.{◌≡◌, ◌-◌}
use Rattle.hevc_spec.specs.Payload.{IsAhead}
use Rattle.hevc_elements.specs.Scan.{scanned}
use Rattle.hevc_spec.specs.Rows.{repeat}
use Rattle.hevc_tables.specs.PpsSccExtensionTable.{component_predictors, predictors}
use Rattle.hevc_tables.specs.SpsTable.{sample_format}
use Rattle.hevc_set_parts.specs.PpsSccExtension.{plain_pps_scc_extension}
use Rattle.hevc_sequence_set.specs.Sps.{plain_sps}
use Rattle.hevc_pps.proofs.scc_extension.read_predictors.Given as goal

abbrev pub invariant-loop-component : goal.invariant-loop-component
invariant-loop-component l = record {
  same : scanned (repeat (component_predictors (sample_format (plain_sps l.fn.sps)) l.count) l.component
      (l.num_components - l.component) (plain_pps_scc_extension l.x)) l.r ≡ scanned
      (predictors (sample_format (plain_sps l.fn.sps)) (plain_pps_scc_extension l.fn.x)) l.fn.r;
  ahead : IsAhead l.fn.r.place l.r.place;
}
