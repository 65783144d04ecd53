use Rattle.hevc_tables.specs.SpsTable.{coding}
use Rattle.hevc_elements.proofs.Chains.{filled_then_growing, grown_then, is_growing}
use Rattle.hevc_sps.proofs.sequence_set.read_coding.Goals as goal

pub returns : goal.returns
unfolding coding
returns c =
    filled_then_growing _ _ _ _ _ _ _ _ _ _ _ c.in_ok-read_scaling.ensures (
    filled_then_growing _ _ _ _ _ _ _ _ _ _ _ c.in_ok-read_tools.ensures (
    grown_then _ _ _ _ _ _ _ _ _ _ _ c.in_ok-read_short_term.ensures (
    filled_then_growing _ _ _ _ _ _ _ _ _ _ _ c.in_ok-read_long_term.ensures (
    filled_then_growing _ _ _ _ _ _ _ _ _ _ _ c.in_ok-read_usability.ensures (
    is_growing _ _ _ _ _ _ _ c.read_extensions.ensures)))))
