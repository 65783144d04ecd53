use Rattle.std.proofs.Common.{arith}
use Rattle.hevc_write_elements.proofs.Loops.{no_turns, one_more_turn}
use Rattle.hevc_write_slice_parts.proofs.WeightKeeps.{weights_written}
use Rattle.hevc_write_slice_parts.proofs.list_weights.write_weights.Goals as goal

pub loop-i-init : goal.loop-i-init
loop-i-init c = λ sps list. no_turns _ _ _

pub loop-i-preserved : goal.loop-i-preserved
loop-i-preserved c = λ sps list. one_more_turn _ _ (c.loop-i.invariant sps list) (c.in_ok-write_place.ensures sps list)

pub returns : goal.returns
returns c = λ sps list. weights_written sps list _ c.loop-i.i _ (c.loop-i.invariant sps list) (omega arith)
