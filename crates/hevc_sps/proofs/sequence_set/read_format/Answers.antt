use Rattle.hevc_tables.specs.SpsTable.{format}
use Rattle.hevc_elements.proofs.Chains.{filled_then}
use Rattle.hevc_sps.proofs.sequence_set.read_format.Goals as goal

pub returns : goal.returns
unfolding format
returns c =
    filled_then _ _ _ _ _ _ _ _ _ _ _ c.in_ok-read_identity.ensures (
    filled_then _ _ _ _ _ _ _ _ _ _ _ c.in_ok-read_samples.ensures (
    filled_then _ _ _ _ _ _ _ _ _ _ _ c.in_ok-read_cropping.ensures (
    filled_then _ _ _ _ _ _ _ _ _ _ _ c.in_ok-read_depths.ensures (
    filled_then _ _ _ _ _ _ _ _ _ _ _ c.in_ok-read_orderings.ensures
    c.read_blocks.ensures))))
