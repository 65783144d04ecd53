use Rattle.std.proofs.Common.{◌≡◌, ◌-◌}
use Rattle.hevc_spec.specs.Payload.{IsAhead}
use Rattle.hevc_elements.specs.Scan.{scanned}
use Rattle.hevc_spec.specs.Rows.{repeat}
use Rattle.hevc_tables.specs.ScalingListTable.{next_matrix, matrices}
use Rattle.hevc_scaling.specs.Projections.{plain_size, plain_matrices}
use Rattle.hevc_scaling.proofs.matrices.read_matrices.Given as goal

abbrev pub invariant-loop-matrix_id : goal.invariant-loop-matrix_id
invariant-loop-matrix_id g l = record {
  same : scanned (repeat (next_matrix (plain_size l.size) l.defaults) l.matrix_id (6 - l.matrix_id)
      (plain_matrices l.all)) l.r ≡ scanned (matrices (plain_size l.size) l.defaults) l.fn.r;
  ahead : IsAhead l.fn.r.place l.r.place;
}
