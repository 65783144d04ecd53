use Rattle.std.proofs.Common.{◌≡◌, ◌-◌}
use Rattle.hevc_spec.specs.Payload.{IsAhead}
use Rattle.hevc_elements.specs.Scan.{scanned}
use Rattle.hevc_spec.specs.Rows.{repeat}
use Rattle.hevc_tables.specs.SpsTable.{own_ordering, own_orderings}
use Rattle.hevc_sequence_set.specs.Sps.{plain_sps}
use Rattle.hevc_sps.proofs.orderings.read_own_orderings.Given as goal

abbrev pub invariant-loop-i : goal.invariant-loop-i
invariant-loop-i l = record {
  same : scanned (repeat own_ordering l.i (l.count - l.i) (plain_sps l.sps)) l.r ≡ scanned
      (own_orderings (plain_sps l.fn.sps)) l.fn.r;
  ahead : IsAhead l.fn.r.place l.r.place;
}
