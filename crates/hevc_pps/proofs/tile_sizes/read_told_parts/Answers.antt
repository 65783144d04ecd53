use Rattle.std.proofs.Common.{rules, arith}
use Rattle.hevc_elements.proofs.Loops.{loops}
use Rattle.hevc_pps.proofs.tile_sizes.read_told_parts.Goals as goal

pub loop-i-preserved : goal.loop-i-preserved
loop-i-preserved g c = record {
  same = grind (arith, loops);
  ahead = search rules;
  parts = search rules;
}
