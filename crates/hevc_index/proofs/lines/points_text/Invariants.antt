use Rattle.std.proofs.Common.{◌≡◌, ◌++◌, map, take}
use Rattle.std.specs.List.{flat_map}
use Rattle.std.specs.String.{string_bytes}
use Rattle.hevc_index.specs.Indexing.{plain_point}
use Rattle.hevc_index.specs.Written.{point_line}
use Rattle.hevc_index.proofs.lines.points_text.Given as goal

-- the lines of the points so far
abbrev pub invariant-loop-point : goal.invariant-loop-point
invariant-loop-point l =
    string_bytes l.text ≡ string_bytes l.initial.text
    ++ flat_map point_line (map plain_point (take l.point-index l.points))
