use Rattle.std.proofs.Common.{arith}
use Rattle.hevc_bits.specs.StartCode.{StandsAt}
use Rattle.hevc_bits.proofs.StartCodes.{none_past}
use Rattle.hevc_bits.proofs.start_code.find_in_last.Goals as goal
use Rattle.hevc_bits.proofs.start_code.find_in_last.Goals.{else-stream-at-eq0-via-then-stream-at-eq0+then-stream-at-eq0-2+else-stream-at-eq1}
use Rattle.hevc_bits.proofs.start_code.find_in_last.Goals.{else-stream-at-eq0-via-then-stream-at-eq0+else-stream-at-eq0-2}
use Rattle.hevc_bits.proofs.start_code.find_in_last.Goals.{else-stream-at-eq0-via-else-stream-at-eq0}

pub loop-at-preserved : goal.loop-at-preserved
loop-at-preserved c =
    let stream = c.args.stream.now in
    let at = c.loop-at.at in
    let none : ¬ StandsAt stream at = elim c.else-stream-at-eq0.branch [
      | else-stream-at-eq0-via-then-stream-at-eq0+then-stream-at-eq0-2+else-stream-at-eq1 w ↦
          λ stands. w.if-stream-at-eq1.false stands.3
      | else-stream-at-eq0-via-then-stream-at-eq0+else-stream-at-eq0-2 w ↦ λ stands. w.if-stream-at-eq0-2.false stands.2
      | else-stream-at-eq0-via-else-stream-at-eq0 w ↦ λ stands. w.if-stream-at-eq0.false stands.1
    ] in
    (omega arith, omega (arith, c.loop-at-test.true), none_past stream c.args.from at c.loop-at.invariant.2 none)
