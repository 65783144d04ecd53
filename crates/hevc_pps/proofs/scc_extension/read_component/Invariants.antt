use Rattle.std.proofs.Common.{◌≡◌, ◌-◌}
use Rattle.hevc_spec.specs.Payload.{IsAhead}
use Rattle.hevc_elements.specs.Scan.{scanned}
use Rattle.hevc_spec.specs.Rows.{repeat}
use Rattle.hevc_tables.specs.PpsSccExtensionTable.{predictor, component_predictors}
use Rattle.hevc_tables.specs.SpsTable.{sample_format}
use Rattle.hevc_set_parts.specs.PpsSccExtension.{plain_pps_scc_extension}
use Rattle.hevc_sequence_set.specs.Sps.{plain_sps}
use Rattle.hevc_pps.proofs.scc_extension.read_component.Given as goal

abbrev pub invariant-loop-i : goal.invariant-loop-i
invariant-loop-i l = record {
  same : scanned (repeat (predictor (sample_format (plain_sps l.fn.sps)) l.component) l.i (l.count - l.i)
      (plain_pps_scc_extension l.x)) l.r ≡ scanned
      (component_predictors (sample_format (plain_sps l.fn.sps)) l.count l.component
      (plain_pps_scc_extension l.fn.x)) l.fn.r;
  ahead : IsAhead l.fn.r.place l.r.place;
}
