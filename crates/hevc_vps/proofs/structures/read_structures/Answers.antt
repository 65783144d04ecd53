use Rattle.std.proofs.Common.{rules, arith}
use Rattle.hevc_elements.proofs.Loops.{growing_loops}
use Rattle.hevc_vps.proofs.structures.read_structures.Goals as goal

pub loop-i-preserved : goal.loop-i-preserved
loop-i-preserved c = record {
  same = grind (arith, growing_loops);
  ahead = search rules;
}
