use Rattle.std.proofs.Common.{◌≡◌, ◌-◌}
use Rattle.hevc_spec.specs.Payload.{IsAhead}
use Rattle.hevc_elements.specs.Scan.{scanned}
use Rattle.hevc_spec.specs.Rows.{repeat}
use Rattle.hevc_tables.specs.SpsSccExtensionTable.{predictor, component_predictors}
use Rattle.hevc_sequence_set.specs.SpsSccExtension.{plain_sps_scc_extension}
use Rattle.hevc_sps.specs.Projections.{plain_format}
use Rattle.hevc_sps.proofs.scc_extension.read_component.Given as goal

abbrev pub invariant-loop-i : goal.invariant-loop-i
invariant-loop-i l = record {
  same : scanned (repeat (predictor (plain_format l.format) l.component) l.i (l.count - l.i)
      (plain_sps_scc_extension l.x)) l.r ≡ scanned
      (component_predictors (plain_format l.format) l.count l.component (plain_sps_scc_extension l.fn.x)) l.fn.r;
  ahead : IsAhead l.fn.r.place l.r.place;
}
