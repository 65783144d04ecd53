use Rattle.std.proofs.Common.{◌≡◌, ◌-◌}
use Rattle.hevc_spec.specs.Payload.{IsAhead}
use Rattle.hevc_elements.specs.Scan.{scanned}
use Rattle.hevc_spec.specs.Rows.{repeat}
use Rattle.hevc_tables.specs.VpsTable.{structure, structures}
use Rattle.hevc_video_set.specs.Vps.{plain_vps}
use Rattle.hevc_vps.proofs.structures.read_structures.Given as goal

abbrev pub invariant-loop-i : goal.invariant-loop-i
invariant-loop-i l = record {
  same : scanned (repeat structure l.i (l.count - l.i) (plain_vps l.vps)) l.r ≡ scanned
      (structures (plain_vps l.fn.vps)) l.fn.r;
  ahead : IsAhead l.fn.r.place l.r.place;
}
