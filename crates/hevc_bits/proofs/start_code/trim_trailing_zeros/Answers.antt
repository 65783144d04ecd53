use Rattle.std.proofs.Common.{◌≡◌, ◌∙◌, sym, arith, take}
use Rattle.std.proofs.Math.ListN.{length-take}
use Rattle.hevc_spec.specs.Units.{without_trailing_zeros}
use Rattle.hevc_bits.proofs.Trimming.{trims, trimmed, trimmed_all, take-length}
use Rattle.hevc_bits.proofs.start_code.trim_trailing_zeros.Goals as goal
use Rattle.hevc_bits.proofs.start_code.trim_trailing_zeros.Goals.{then-loop-len-test+else-bytes-len-eq0}
use Rattle.hevc_bits.proofs.start_code.trim_trailing_zeros.Goals.{else-loop-len-test}

pub loop-len-preserved : goal.loop-len-preserved
loop-len-preserved c =
    let i = c.loop-len.invariant in
    (omega arith, trims c.loop-len.len c.args.bytes.now c.loop-len-test.true i.0 c.if-bytes-len-eq0.true ∙ i.1)

pub returns : goal.returns
returns c =
    let i = c.loop-len.invariant in
    let n = c.loop-len.len in
    let bytes = c.args.bytes.now in
    let done : without_trailing_zeros (take n bytes) ≡ take n bytes = elim c.loop-len-test.branch [
      | then-loop-len-test+else-bytes-len-eq0 w ↦ trimmed n bytes w.loop-len-test.true i.0 w.if-bytes-len-eq0.false
      | else-loop-len-test w ↦ trimmed_all n bytes (omega (arith, w.loop-len-test.false))
    ] in
    record {
      trimmed = sym done ∙ i.1;
      front = take-length n bytes i.0;
      shorter = grind (arith, length-take);
    }
