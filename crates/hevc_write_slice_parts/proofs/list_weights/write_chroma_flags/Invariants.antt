use Rattle.std.specs.Prelude.{ℕ}
use Rattle.hevc_tables.specs.WeightedPredictionTable.{chroma_flag}
use Rattle.hevc_write_elements.specs.Filling.{WritesTurns}
use Rattle.hevc_write_slice_parts.specs.WeightParts as own
use Rattle.hevc_write_slice_parts.proofs.list_weights.write_chroma_flags.Given as goal

abbrev pub invariant-loop-i : goal.invariant-loop-i
invariant-loop-i l = (list : ℕ)
    → WritesTurns (chroma_flag list) (own.same_chroma_flags (own.plain_list_weights l.x)) l.i l.fn.w l.w
