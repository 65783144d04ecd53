use Rattle.std.proofs.Common.{arith}
use Rattle.hevc_write_elements.proofs.Loops.{no_turns, one_more_turn}
use Rattle.hevc_write_slice_header.proofs.HeaderKeeps.{entry_point_written, entry_points_written}
use Rattle.hevc_write_slice_header.proofs.ending.write_entry_points.Goals as goal

pub loop-i-init : goal.loop-i-init
loop-i-init c = no_turns _ _ _

pub loop-i-preserved : goal.loop-i-preserved
loop-i-preserved c =
    one_more_turn _ _ c.loop-i.invariant
    (entry_point_written _ _ _ (omega arith) (rw (← c.from-num_bits.ensures) c.in_ok-bits.ensures))

pub returns : goal.returns
returns c = λ count. entry_points_written _ _ c.loop-i.i count c.loop-i.invariant (omega arith)
