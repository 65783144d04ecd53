use Rattle.std.proofs.Common.{arith}
use Rattle.hevc_tables.specs.PpsTable.{even_size}
use Rattle.hevc_pps.proofs.EvenSizes.{part_put}
use Rattle.hevc_pps.proofs.tile_sizes.even_sizes.Goals as goal

pub loop-i-preserved : goal.loop-i-preserved
loop-i-preserved g c =
    rw c.loop-i.invariant
    (rw c.even_size.ensures (part_put (even_size c.args.length c.args.count) g.row.N c.loop-i.i (grind (arith))))
