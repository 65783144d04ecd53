use Rattle.std.proofs.Common.{◌≡◌, ◌-◌}
use Rattle.hevc_spec.specs.Payload.{IsAhead}
use Rattle.hevc_elements.specs.Scan.{scanned}
use Rattle.hevc_spec.specs.Rows.{repeat}
use Rattle.hevc_tables.specs.SliceHeaderTable.{entry_point, entry_points}
use Rattle.hevc_slice_header.proofs.entry_points.read_entry_points.Given as goal

abbrev pub invariant-loop-i : goal.invariant-loop-i
invariant-loop-i l = record {
  same : scanned (repeat (entry_point l.num_bits) l.i (l.count - l.i) l.offsets) l.r ≡ scanned
      (entry_points l.num_bits l.count) l.fn.r;
  ahead : IsAhead l.fn.r.place l.r.place;
}
