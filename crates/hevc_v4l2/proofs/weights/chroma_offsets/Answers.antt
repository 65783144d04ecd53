use Rattle.std.proofs.Common.{[], get_or, arith}
use Rattle.std.proofs.lemmas.List.FromFn.{fill_by_all}
use Rattle.hevc_v4l2.specs.Arrays.{no_pair}
use Rattle.hevc_v4l2.specs.Weights.{chroma_offset_pair, chroma_offsets}
use Rattle.hevc_v4l2.proofs.weights.chroma_offsets.Goals as goal

pub returns : goal.returns
unfolding chroma_offsets
returns c =
    fill_by_all
    (λ k. chroma_offset_pair c.args.scale.half_range c.args.scale.log2_denominator
    (get_or c.args.delta_weights.now k no_pair) (get_or c.args.delta_offsets.now k no_pair))
    c.loop-i.offsets 15 [] c.loop-i.invariant.long
    (λ k below. c.loop-i.invariant.written k (omega arith))
