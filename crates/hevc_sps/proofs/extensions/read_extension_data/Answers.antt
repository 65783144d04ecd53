use Rattle.hevc_tables.specs.SpsTable.{extension_data}
use Rattle.hevc_elements.proofs.Chains.{filled_then}
use Rattle.hevc_sps.proofs.extensions.read_extension_data.Goals as goal

pub returns : goal.returns
unfolding extension_data
returns c =
    filled_then _ _ _ _ _ _ _ _ _ _ _ c.in_ok-read_extension_flags.ensures (
    filled_then _ _ _ _ _ _ _ _ _ _ _ c.in_ok-read_range_extension_if_present.ensures
    c.read_scc_extension_if_present.ensures)
