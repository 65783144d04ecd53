use Rattle.hevc_tables.specs.SpsSccExtensionTable.{component_predictors}
use Rattle.hevc_tables.specs.SpsTable.{sample_format}
use Rattle.hevc_sequence_set.specs.SpsSccExtension.{plain_sps_scc_extension}
use Rattle.hevc_sequence_set.specs.Sps.{plain_sps}
use Rattle.hevc_write_extensions.specs.SpsSccExtensionParts as own
use Rattle.hevc_write_elements.specs.Filling.{WritesTurns}
use Rattle.hevc_write_extensions.proofs.sps_scc_extension.write_predictors.Given as goal

abbrev pub invariant-loop-component : goal.invariant-loop-component
invariant-loop-component l = WritesTurns (component_predictors (sample_format (plain_sps l.sps)) l.count)
    (own.same_components (plain_sps_scc_extension l.x)) l.component l.fn.w l.w
