use Rattle.std.proofs.Common.{rules, arith}
use Rattle.hevc_spec.proofs.PlaceLaws.{ahead_then}
use Rattle.hevc_elements.proofs.Loops.{loops}
use Rattle.hevc_pps.proofs.scc_extension.read_predictors.Goals as goal

pub loop-component-preserved : goal.loop-component-preserved
loop-component-preserved c = record {
  same = grind (arith, loops);
  ahead = search rules;
}

pub returns-in_err-read_component : goal.returns-in_err-read_component
returns-in_err-read_component c = record {
  reads = grind (arith, loops);
  moves = ahead_then _ _ _ c.loop-component.invariant.ahead c.in_err-read_component.ensures.moves;
}
