use Rattle.std.proofs.Common.{rules, arith}
use Rattle.hevc_spec.proofs.PlaceLaws.{ahead_then}
use Rattle.hevc_elements.proofs.Loops.{loops}
use Rattle.hevc_pps.proofs.scc_extension.read_component.Goals as goal

pub loop-i-preserved : goal.loop-i-preserved
loop-i-preserved c = record {
  same = grind (arith, loops);
  ahead = search rules;
}

pub returns-in_err-read_predictor : goal.returns-in_err-read_predictor
returns-in_err-read_predictor c = record {
  reads = grind (arith, loops);
  moves = ahead_then _ _ _ c.loop-i.invariant.ahead c.in_err-read_predictor.ensures.moves;
}
