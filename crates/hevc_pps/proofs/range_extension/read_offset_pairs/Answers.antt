use Rattle.std.proofs.Common.{rules, arith}
use Rattle.hevc_spec.proofs.PlaceLaws.{ahead_then}
use Rattle.hevc_elements.proofs.Loops.{loops}
use Rattle.hevc_pps.proofs.range_extension.read_offset_pairs.Goals as goal

pub loop-i-preserved : goal.loop-i-preserved
loop-i-preserved c = record {
  same = grind (arith, loops);
  ahead = search rules;
}

pub returns-in_err-read_offset_pair : goal.returns-in_err-read_offset_pair
returns-in_err-read_offset_pair c = record {
  reads = grind (arith, loops);
  moves = ahead_then _ _ _ c.loop-i.invariant.ahead c.in_err-read_offset_pair.ensures.moves;
}
