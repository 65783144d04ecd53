use Rattle.std.proofs.Common.{◌<◌, arith}
use Rattle.hevc_decoder_tests.proofs.decoder.judging.count_by_steps.Goals as goal

pub loop-shown-preserved : goal.loop-shown-preserved
loop-shown-preserved c =
    let moves : c.loop-shown.position < c.decode_next_unit.new.position =
    rw c.in-Some.is at c.in_ok-_unit.ensures.position.moves in
    let few = c.loop-shown.invariant.few in
    record {
      within = c.in_ok-_unit.ensures.position.within;
      few = omega (arith, few, moves);
      empty = c.in_ok-_unit.ensures.empty;
    }
