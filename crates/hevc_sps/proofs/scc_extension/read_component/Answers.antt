use Rattle.std.proofs.Common.{rules, arith}
use Rattle.hevc_elements.proofs.Loops.{loops}
use Rattle.hevc_sps.proofs.scc_extension.read_component.Goals as goal

pub loop-i-preserved : goal.loop-i-preserved
loop-i-preserved c = record {
  same = grind (arith, loops);
  ahead = search rules;
}
