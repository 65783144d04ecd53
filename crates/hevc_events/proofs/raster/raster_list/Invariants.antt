use Rattle.std.proofs.Common.{◌≡◌, length, take}
use Rattle.hevc_events.specs.Scan.{in_raster_order}
use Rattle.hevc_events.proofs.raster.raster_list.Given as goal

abbrev pub invariant-loop-i : goal.invariant-loop-i
invariant-loop-i g l = record {
  long : length l.ordered ≡ length l.scan_places;
  written : take l.i l.ordered ≡ in_raster_order (take l.i l.scan_places) l.entries;
}
