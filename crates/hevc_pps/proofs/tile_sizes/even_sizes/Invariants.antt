use Rattle.std.proofs.Common.{◌≡◌, ◌-◌, ◌++◌, map, replicate}
use Rattle.std.specs.List.{range_with_len}
use Rattle.hevc_tables.specs.PpsTable.{even_size}
use Rattle.hevc_pps.proofs.tile_sizes.even_sizes.Given as goal

abbrev pub invariant-loop-i : goal.invariant-loop-i
invariant-loop-i g l = l.sizes ≡ map (even_size l.length l.count) (range_with_len 0 l.i) ++ replicate (g.row.N - l.i) 0
