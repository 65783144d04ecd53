use Rattle.std.proofs.Common.{◌≡◌, ◌-◌}
use Rattle.hevc_spec.specs.Payload.{IsAhead}
use Rattle.hevc_elements.specs.Scan.{scanned}
use Rattle.hevc_spec.specs.Rows.{repeat}
use Rattle.hevc_tables.specs.WeightedPredictionTable.{place_weights, weights}
use Rattle.hevc_sequence_set.specs.Sps.{plain_sps}
use Rattle.hevc_slice_parts.specs.Projections.{plain_list_weights}
use Rattle.hevc_slice_parts.proofs.list_weights.read_weights.Given as goal

abbrev pub invariant-loop-i : goal.invariant-loop-i
invariant-loop-i l = record {
  same : scanned
      (repeat (place_weights (plain_sps l.fn.sps) l.list) l.i (l.count - l.i) (plain_list_weights l.w)) l.r
      ≡ scanned (weights (plain_sps l.fn.sps) l.list l.count (plain_list_weights l.fn.w)) l.fn.r;
  ahead : IsAhead l.fn.r.place l.r.place;
}
