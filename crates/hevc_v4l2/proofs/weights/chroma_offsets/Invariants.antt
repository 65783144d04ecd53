use Rattle.std.proofs.Common.{◌≡◌, ℕ, ◌<◌, length, get_or, []}
use Rattle.hevc_v4l2.specs.Arrays.{no_pair}
use Rattle.hevc_v4l2.specs.Weights.{chroma_offset_pair}
use Rattle.hevc_v4l2.proofs.weights.chroma_offsets.Given as goal

abbrev pub invariant-loop-i : goal.invariant-loop-i
invariant-loop-i l = record {
  long : length l.offsets ≡ 15;
  written : (k : ℕ) → k < l.i
      → get_or l.offsets k [] ≡ chroma_offset_pair l.scale.half_range l.scale.log2_denominator
      (get_or l.delta_weights k no_pair) (get_or l.delta_offsets k no_pair);
}
