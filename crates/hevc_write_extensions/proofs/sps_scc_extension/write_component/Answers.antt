use Rattle.std.proofs.Common.{[], arith}
use Rattle.std.proofs.lemmas.Option.{unwrap_or-slice_get}
use Rattle.hevc_sequence_set.specs.SpsSccExtension.{plain_sps_scc_extension}
use Rattle.hevc_write_extensions.proofs.SpsSccExtensionKeeps.{component_written, predictor_written}
use Rattle.hevc_write_elements.proofs.Loops.{no_turns, one_more_turn}
use Rattle.hevc_write_extensions.proofs.sps_scc_extension.write_component.Goals as goal

pub loop-i-init : goal.loop-i-init
loop-i-init c = no_turns _ _ _

pub loop-i-preserved : goal.loop-i-preserved
loop-i-preserved c =
    let x = plain_sps_scc_extension c.args.x.now in
    let list = unwrap_or-slice_get x.palette_predictor_initializer c.args.component [] in
    let here = c.in_ok-write_predictor.ensures in
    one_more_turn _ _ c.loop-i.invariant
    (predictor_written _ x c.args.component c.loop-i.i (rw list here.0)
    (rw (list, ← c.bit_depth-depth.ensures.value) here.1))

pub returns-clause-written : goal.returns-clause-written
returns-clause-written c =
    component_written _ (plain_sps_scc_extension c.args.x.now) c.loop-i.i c.args.count c.args.component _ _
    (omega arith) c.loop-i.invariant (omega arith)
