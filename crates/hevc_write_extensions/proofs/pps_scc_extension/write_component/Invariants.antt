use Rattle.hevc_tables.specs.PpsSccExtensionTable.{predictor}
use Rattle.hevc_tables.specs.SpsTable.{sample_format}
use Rattle.hevc_set_parts.specs.PpsSccExtension.{plain_pps_scc_extension}
use Rattle.hevc_sequence_set.specs.Sps.{plain_sps}
use Rattle.hevc_write_extensions.specs.PpsSccExtensionParts as own
use Rattle.hevc_write_elements.specs.Filling.{WritesTurns}
use Rattle.hevc_write_extensions.proofs.pps_scc_extension.write_component.Given as goal

abbrev pub invariant-loop-i : goal.invariant-loop-i
invariant-loop-i l =
    WritesTurns (predictor (sample_format (plain_sps l.sps)) l.component)
    (own.same_predictors (plain_pps_scc_extension l.x) l.component) l.i l.fn.w l.w
