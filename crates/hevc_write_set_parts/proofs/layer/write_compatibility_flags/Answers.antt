use Rattle.std.proofs.Common.{arith}
use Rattle.hevc_write_elements.proofs.Loops.{no_turns, one_more_turn}
use Rattle.hevc_write_set_parts.proofs.LayerKeeps.{compatibility_flags_written}
use Rattle.hevc_write_set_parts.proofs.layer.write_compatibility_flags.Goals as goal

pub loop-i-init : goal.loop-i-init
loop-i-init c = λ scope. no_turns _ _ _

pub loop-i-preserved : goal.loop-i-preserved
loop-i-preserved c =
    λ scope. one_more_turn _ _ (c.loop-i.invariant scope) (c.in_ok-write_compatibility_flag.ensures scope)

pub returns : goal.returns
returns c = λ scope. compatibility_flags_written scope _ c.loop-i.i _ _ (c.loop-i.invariant scope) (omega arith)
