use Rattle.std.proofs.Common.{arith}
use Rattle.hevc_write_elements.proofs.Loops.{no_turns, one_more_turn}
use Rattle.hevc_write_pps.proofs.PpsKeeps.{told_size_written, told_sizes_written}
use Rattle.hevc_write_pps.proofs.tiles.write_told_sizes.Goals as goal

pub loop-i-init : goal.loop-i-init
loop-i-init c = λ r kept. no_turns _ _ _

pub loop-i-preserved : goal.loop-i-preserved
loop-i-preserved c =
    λ r kept. one_more_turn _ _ (c.loop-i.invariant r kept)
    (told_size_written r kept _ _ (omega arith) c.in_ok-ue.ensures)

pub returns : goal.returns
returns c = λ r kept places blocks. told_sizes_written r kept _ c.loop-i.i _ (c.loop-i.invariant r kept)
    (omega arith) places blocks
