use Rattle.std.proofs.Common.{rules, arith}
use Rattle.hevc_elements.proofs.Loops.{loops}
use Rattle.hevc_vps.proofs.orderings.read_own_orderings.Goals as goal

pub loop-i-preserved : goal.loop-i-preserved
loop-i-preserved c = record {
  same = grind (arith, loops);
  ahead = search rules;
}
