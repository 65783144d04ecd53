use Rattle.std.proofs.Common.{arith, rules}
use Rattle.hevc_io.proofs.Written.{written_more}
use Rattle.hevc_io.proofs.output.write_all.Goals as goal

pub loop-done-preserved : goal.loop-done-preserved
loop-done-preserved g c = record {
  within = search rules;
  written = written_more _ _ _ _ _ _ c.loop-done.invariant.written c.in_ok-done.ensures.bytes;
  later = omega (arith, c.in_ok-done.ensures.later);
}
