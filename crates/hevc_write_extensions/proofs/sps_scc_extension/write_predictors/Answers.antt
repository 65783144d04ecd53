use Rattle.std.proofs.Common.{◌≡◌, ◌∙◌, arith}
use Rattle.hevc_sequence_set.specs.SpsSccExtension.{plain_sps_scc_extension}
use Rattle.hevc_write_elements.proofs.Loops.{no_turns}
use Rattle.hevc_write_extensions.proofs.SpsSccExtensionKeeps.{predictors_written, one_more_component}
use Rattle.hevc_write_extensions.proofs.sps_scc_extension.write_predictors.Goals as goal

pub loop-component-init : goal.loop-component-init
loop-component-init c = no_turns _ _ _

pub loop-component-preserved : goal.loop-component-preserved
loop-component-preserved c =
    one_more_component _ (plain_sps_scc_extension c.args.x.now) _ _ _ _ _ c.write_component.ensures.there
    c.loop-component.invariant c.in_ok-write_component.ensures.written

pub returns : goal.returns
returns c =
    let end = c.num_components-component-end in
    let all : c.loop-component.component ≡ end.result = omega arith in
    predictors_written _ (plain_sps_scc_extension c.args.x.now) _ _ _ _ c.loop-component.invariant
    (all ∙ end.ensures.value)
