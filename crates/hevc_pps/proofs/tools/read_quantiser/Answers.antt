use Rattle.std.proofs.Common.{rules, arith}
use Rattle.hevc_spec.proofs.PlaceLaws.{ahead_then}
use Rattle.hevc_tables.specs.PpsTable.{quantiser}
use Rattle.hevc_pps.proofs.tools.read_quantiser.Goals as goal

pub returns-in_err-constrained_intra-clause-fills : goal.returns-in_err-constrained_intra-clause-fills
unfolding quantiser
returns-in_err-constrained_intra-clause-fills c = record {
  reads = search rules;
  moves = ahead_then _ _ _ c.in_ok-init_qp.ensures.read.moves c.in_err-constrained_intra.ensures.read.moves;
}

pub returns-in_err-transform_skip-clause-fills : goal.returns-in_err-transform_skip-clause-fills
unfolding quantiser
returns-in_err-transform_skip-clause-fills c = record {
  reads = search rules;
  moves = ahead_then _ _ _
      (ahead_then _ _ _ c.in_ok-init_qp.ensures.read.moves c.in_ok-constrained_intra.ensures.read.moves)
      c.in_err-transform_skip.ensures.read.moves;
}

pub returns-in_err-changes-clause-fills : goal.returns-in_err-changes-clause-fills
unfolding quantiser
returns-in_err-changes-clause-fills c = record {
  reads = search rules;
  moves = ahead_then _ _ _
      (ahead_then _ _ _
      (ahead_then _ _ _ c.in_ok-init_qp.ensures.read.moves c.in_ok-constrained_intra.ensures.read.moves)
      c.in_ok-transform_skip.ensures.read.moves) c.in_err-changes.ensures.read.moves;
}

pub returns-in_err-depth-clause-fills : goal.returns-in_err-depth-clause-fills
unfolding quantiser
returns-in_err-depth-clause-fills c = record {
  reads = search rules;
  moves = ahead_then _ _ _
      (ahead_then _ _ _
      (ahead_then _ _ _
      (ahead_then _ _ _ c.in_ok-init_qp.ensures.read.moves c.in_ok-constrained_intra.ensures.read.moves)
      c.in_ok-transform_skip.ensures.read.moves) c.in_ok-changes.ensures.read.moves) c.in_err-depth.ensures.read.moves;
}

pub returns-in_err-cb-clause-fills : goal.returns-in_err-cb-clause-fills
unfolding quantiser
returns-in_err-cb-clause-fills c = record {
  reads = search rules;
  moves = ahead_then _ _ _
      (ahead_then _ _ _
      (ahead_then _ _ _
      (ahead_then _ _ _
      (ahead_then _ _ _ c.in_ok-init_qp.ensures.read.moves c.in_ok-constrained_intra.ensures.read.moves)
      c.in_ok-transform_skip.ensures.read.moves) c.in_ok-changes.ensures.read.moves)
      c.in_ok-depth.ensures.read.moves) c.in_err-cb.ensures.read.moves;
}

pub returns-in_err-cr-clause-fills : goal.returns-in_err-cr-clause-fills
unfolding quantiser
returns-in_err-cr-clause-fills c = record {
  reads = search rules;
  moves = ahead_then _ _ _
      (ahead_then _ _ _
      (ahead_then _ _ _
      (ahead_then _ _ _
      (ahead_then _ _ _
      (ahead_then _ _ _ c.in_ok-init_qp.ensures.read.moves c.in_ok-constrained_intra.ensures.read.moves)
      c.in_ok-transform_skip.ensures.read.moves) c.in_ok-changes.ensures.read.moves)
      c.in_ok-depth.ensures.read.moves) c.in_ok-cb.ensures.read.moves) c.in_err-cr.ensures.read.moves;
}

pub returns-clause-fills : goal.returns-clause-fills
unfolding quantiser
returns-clause-fills c = record {
  reads = search rules;
  moves = ahead_then _ _ _
      (ahead_then _ _ _
      (ahead_then _ _ _
      (ahead_then _ _ _
      (ahead_then _ _ _
      (ahead_then _ _ _ c.in_ok-init_qp.ensures.read.moves c.in_ok-constrained_intra.ensures.read.moves)
      c.in_ok-transform_skip.ensures.read.moves) c.in_ok-changes.ensures.read.moves)
      c.in_ok-depth.ensures.read.moves) c.in_ok-cb.ensures.read.moves) c.in_ok-cr.ensures.read.moves;
}
