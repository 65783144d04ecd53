use Rattle.std.proofs.Common.{arith}
use Rattle.hevc_write_elements.proofs.Loops.{no_turns, one_more_turn}
use Rattle.hevc_write_slice_parts.proofs.WeightKeeps.{chroma_flags_written}
use Rattle.hevc_write_slice_parts.proofs.list_weights.write_chroma_flags.Goals as goal

pub loop-i-init : goal.loop-i-init
loop-i-init c = λ list. no_turns _ _ _

pub loop-i-preserved : goal.loop-i-preserved
loop-i-preserved c = λ list. one_more_turn _ _ (c.loop-i.invariant list) (c.in_ok-write_chroma_flag.ensures list)

pub returns : goal.returns
returns c = λ list. chroma_flags_written list _ c.loop-i.i _ (c.loop-i.invariant list) (omega arith)
