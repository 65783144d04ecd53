use Rattle.std.proofs.Common.{false, refl, arith}
use Rattle.hevc_tables.specs.WeightedPredictionTable.{chroma_flag}
use Rattle.hevc_write_elements.proofs.Steps.{flag_then, done_filled}
use Rattle.hevc_write_elements.proofs.Loops.{one_less}
use Rattle.hevc_write_slice_parts.proofs.list_weights.write_chroma_flag.Goals as goal

pub returns : goal.returns
unfolding chroma_flag
returns c = λ list. record {
  written = λ y w.
      flag_then _ refl c.in_ok-flag.ensures (λ v b h. done_filled (λ a.
      let p = one_less c.args.i y.chroma_weight_flag c.args.x.now.chroma_weight_flag v false (omega arith) a in
      (p.0, λ at. h p.1 at)));
}
