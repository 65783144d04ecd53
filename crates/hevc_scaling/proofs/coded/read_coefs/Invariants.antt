use Rattle.std.proofs.Common.{◌≡◌, ◌-◌}
use Rattle.hevc_spec.specs.Payload.{IsAhead}
use Rattle.hevc_elements.specs.Scan.{scanned}
use Rattle.hevc_spec.specs.Rows.{repeat}
use Rattle.hevc_tables.specs.ScalingListTable.{next_entry, coefs}
use Rattle.hevc_scaling.specs.Projections.{plain_coefs}
use Rattle.hevc_scaling.proofs.coded.read_coefs.Given as goal

abbrev pub invariant-loop-i : goal.invariant-loop-i
invariant-loop-i g l = record {
  same : scanned (repeat next_entry l.i (g.row.N - l.i) (plain_coefs l.coefs)) l.r ≡ scanned
      (coefs g.row.N l.start) l.fn.r;
  ahead : IsAhead l.fn.r.place l.r.place;
}
