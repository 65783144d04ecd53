use Rattle.std.specs.Prelude.{ℕ}
use Rattle.hevc_records.specs.Sps.{PlainSps}
use Rattle.hevc_tables.specs.WeightedPredictionTable.{place_weights}
use Rattle.hevc_write_elements.specs.Filling.{WritesTurns}
use Rattle.hevc_write_slice_parts.specs.WeightParts as own
use Rattle.hevc_write_slice_parts.proofs.list_weights.write_weights.Given as goal

abbrev pub invariant-loop-i : goal.invariant-loop-i
invariant-loop-i l = (sps : PlainSps) (list : ℕ)
    → WritesTurns (place_weights sps list) (own.SameWeights (own.plain_list_weights l.x)) l.i l.fn.w l.w
