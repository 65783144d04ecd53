use Rattle.std.proofs.Common.{◌≡◌, ◌-◌}
use Rattle.hevc_spec.specs.Payload.{IsAhead}
use Rattle.hevc_elements.specs.Scan.{scanned}
use Rattle.hevc_spec.specs.Rows.{repeat}
use Rattle.hevc_tables.specs.PpsRangeExtensionTable.{offset_pair, offset_pairs}
use Rattle.hevc_set_parts.specs.PpsRangeExtension.{plain_pps_range_extension}
use Rattle.hevc_pps.proofs.range_extension.read_offset_pairs.Given as goal

abbrev pub invariant-loop-i : goal.invariant-loop-i
invariant-loop-i l = record {
  same : scanned (repeat offset_pair l.i (l.count - l.i) (plain_pps_range_extension l.x)) l.r ≡ scanned
      (offset_pairs l.count (plain_pps_range_extension l.fn.x)) l.fn.r;
  ahead : IsAhead l.fn.r.place l.r.place;
}
