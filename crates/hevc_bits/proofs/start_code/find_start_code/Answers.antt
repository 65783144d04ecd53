use Rattle.std.proofs.Common.{◌+◌, length, arith, Some}
use Rattle.hevc_bits.proofs.Blocks.{not_two}
use Rattle.hevc_bits.proofs.StartCodes.{block_long, first_behind, first_in_block, none_apart, none_begun, none_joined}
use Rattle.hevc_bits.proofs.start_code.find_start_code.Goals as goal

pub overflow_add-result : goal.overflow_add-result
overflow_add-result c = record {
  fits = omega (
    arith,
    c.loop-at-test.true,
    c.in-Some.ensures.1.0,
    block_long c.args.stream.now c.loop-at.at (omega (arith, c.loop-at-test.true)),
  );
}

pub returns-in-Some : goal.returns-in-Some
returns-in-Some c =
    let stream = c.args.stream.now in
    first_behind stream c.args.from c.loop-at.at (Some (c.loop-at.at + c.in-Some.ahead))
    (omega arith) c.loop-at.invariant.2
    (first_in_block stream c.loop-at.at c.in-Some.ahead (omega (arith, c.loop-at-test.true)) c.in-Some.ensures)

pub loop-at-preserved-then-pairs-eq0 : goal.loop-at-preserved-then-pairs-eq0
loop-at-preserved-then-pairs-eq0 c =
    let stream = c.args.stream.now in
    let at = c.loop-at.at in (
      omega arith,
      omega (arith, c.loop-at-test.true),
      none_joined stream c.args.from at (at + 63) c.loop-at.invariant.2
          (none_apart stream at
          (not_two _ c.pairs_of_zeros-pairs.result
          (block_long stream at (omega (arith, c.loop-at-test.true))) c.pairs_of_zeros-pairs.ensures
          c.if-pairs-eq0.true)),
    )

pub returns-in_err-at : goal.returns-in_err-at
returns-in_err-at c =
    let stream = c.args.stream.now in
    let from = c.args.from in
    let at = c.loop-at.at in
    let begun = none_begun stream from at (omega (arith, c.loop-at-test.true)) c.loop-at.invariant.2
    c.in_default.ensures in
    rw c.from_residual.ensures (none_joined stream from (at + 62) (length stream) begun c.in_err-at.ensures)

pub loop-at-preserved : goal.loop-at-preserved
loop-at-preserved c =
    let stream = c.args.stream.now in
    let from = c.args.from in
    let at = c.loop-at.at in
    let begun = none_begun stream from at (omega (arith, c.loop-at-test.true)) c.loop-at.invariant.2
    c.in_default.ensures in (
      omega (arith, c.in_ok-at.ensures.0),
      omega (arith, c.in_ok-at.ensures.1),
      none_joined stream from (at + 62) c.in_ok-at.at begun c.in_ok-at.ensures.3,
    )

pub returns : goal.returns
returns c = first_behind c.args.stream.now c.args.from c.loop-at.at c.find_in_last.result
    (omega arith) c.loop-at.invariant.2 c.find_in_last.ensures
