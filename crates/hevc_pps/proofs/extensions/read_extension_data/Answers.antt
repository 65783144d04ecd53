use Rattle.hevc_tables.specs.PpsTable.{extension_data}
use Rattle.hevc_elements.proofs.Chains.{filled_then}
use Rattle.hevc_pps.proofs.extensions.read_extension_data.Goals as goal

pub returns-clause-fills : goal.returns-clause-fills
unfolding extension_data
returns-clause-fills c =
    filled_then _ _ _ _ _ _ _ _ _ _ _ c.in_ok-read_extension_flags.ensures.fills (
    filled_then _ _ _ _ _ _ _ _ _ _ _ c.in_ok-read_range_extension_if_present.ensures.fills
    c.read_scc_extension_if_present.ensures.fills)
