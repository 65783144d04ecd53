use Rattle.std.proofs.Common.{◌≡◌, ◌-◌}
use Rattle.hevc_spec.specs.Payload.{IsAhead}
use Rattle.hevc_elements.specs.Scan.{scanned}
use Rattle.hevc_spec.specs.Rows.{repeat}
use Rattle.hevc_tables.specs.SpsSccExtensionTable.{component_predictors, predictors}
use Rattle.hevc_sequence_set.specs.SpsSccExtension.{plain_sps_scc_extension}
use Rattle.hevc_sps.specs.Projections.{plain_format}
use Rattle.hevc_sps.proofs.scc_extension.read_predictors.Given as goal

abbrev pub invariant-loop-component : goal.invariant-loop-component
invariant-loop-component l = record {
  same : scanned (repeat (component_predictors (plain_format l.format) l.count) l.component
      (l.num_components - l.component) (plain_sps_scc_extension l.x)) l.r ≡ scanned
      (predictors (plain_format l.format) l.count (plain_sps_scc_extension l.fn.x)) l.fn.r;
  ahead : IsAhead l.fn.r.place l.r.place;
}
