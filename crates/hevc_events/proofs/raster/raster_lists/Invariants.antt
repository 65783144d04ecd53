use Rattle.std.proofs.Common.{◌≡◌, ◌++◌, map, take, drop}
use Rattle.hevc_events.specs.Scan.{in_raster_order}
use Rattle.hevc_events.proofs.raster.raster_lists.Given as goal

abbrev pub invariant-loop-list : goal.invariant-loop-list
invariant-loop-list g l =
    l.list-items ≡ map (in_raster_order l.scan_places) (take l.list-index l.initial.list-items)
    ++ drop l.list-index l.initial.list-items
