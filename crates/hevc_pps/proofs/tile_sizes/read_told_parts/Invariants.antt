use Rattle.std.proofs.Common.{◌≡◌, ◌-◌}
use Rattle.hevc_spec.specs.Payload.{IsAhead}
use Rattle.hevc_elements.specs.Scan.{scanned}
use Rattle.hevc_spec.specs.Rows.{repeat}
use Rattle.hevc_tables.specs.PpsTable.{told_size, told_parts}
use Rattle.hevc_pps.specs.Projections.{plain_parts}
use Rattle.hevc_pps.specs.Tiling.{AreParts}
use Rattle.hevc_pps.proofs.tile_sizes.read_told_parts.Given as goal

abbrev pub invariant-loop-i : goal.invariant-loop-i
invariant-loop-i g l = record {
  same : scanned (repeat (told_size l.row) l.i (l.last - l.i) (plain_parts l.parts)) l.r ≡ scanned
      (told_parts l.row g.row.N l.length l.last) l.fn.r;
  ahead : IsAhead l.fn.r.place l.r.place;
  parts : AreParts l.length l.i (plain_parts l.parts);
}
