use Rattle.std.proofs.Common.{◌≡◌, drop, map}
use Rattle.hevc_index.specs.Finding.{numbered_unit}
use Rattle.hevc_index.specs.Indexing.{plain_point}
use Rattle.hevc_index.proofs.splicing.unit_of_point.Given as goal

-- the point is among those that are left, if it is one of all
abbrev pub invariant-loop-point : goal.invariant-loop-point
invariant-loop-point l =
    numbered_unit l.number (map plain_point (drop l.point-index l.points))
    ≡ numbered_unit l.number (map plain_point l.points)
