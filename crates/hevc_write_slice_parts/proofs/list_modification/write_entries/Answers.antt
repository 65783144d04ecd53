use Rattle.std.proofs.Common.{arith}
use Rattle.hevc_write_elements.proofs.Loops.{no_turns, one_more_turn}
use Rattle.hevc_write_slice_parts.proofs.ListKeeps.{entry_written, entries_written}
use Rattle.hevc_write_slice_parts.proofs.list_modification.write_entries.Goals as goal

pub loop-i-init : goal.loop-i-init
loop-i-init c = λ r kept. no_turns _ _ _

pub loop-i-preserved : goal.loop-i-preserved
loop-i-preserved c =
    λ r kept. one_more_turn _ _ (c.loop-i.invariant r kept)
    (entry_written r kept _ _ c.loop-i.i (omega arith) (rw (← c.ceil_log2-num_bits.ensures.value) c.in_ok-bits.ensures))

pub returns : goal.returns
returns c = record {
  written = λ r kept count. entries_written r kept _ _ count c.loop-i.i (c.loop-i.invariant r kept) (omega arith);
}
