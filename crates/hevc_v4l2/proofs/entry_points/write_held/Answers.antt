use Rattle.std.proofs.Common.{ℕ, ◌+◌, ◌∙◌, arith}
use Rattle.std.proofs.lemmas.List.{length-set}
use Rattle.hevc_v4l2.proofs.Written.{left-suc, written-suc}
use Rattle.hevc_v4l2.proofs.entry_points.write_held.Goals as goal

pub loop-i-preserved : goal.loop-i-preserved
loop-i-preserved c =
    let l = c.loop-i in
    let more : ℕ → ℕ = λ n. n + 1 in
    record {
      long = length-set l.offsets l.i _ ∙ l.invariant.long;
      written = written-suc more c.args.offsets_minus1.now l.offsets l.i (omega arith)
          (omega (arith, l.invariant.long)) l.invariant.written;
      left = left-suc l.offsets c.args.offsets.now l.i _ l.invariant.left;
    }
