use Rattle.hevc_tables.specs.PpsTable.{picture_set_of}
use Rattle.hevc_elements.proofs.Chains.{filled_then}
use Rattle.hevc_pps.proofs.picture_set.read_behind_ids.Goals as goal

pub returns-clause-fills : goal.returns-clause-fills
unfolding picture_set_of
returns-clause-fills c =
    filled_then _ _ _ _ _ _ _ _ _ _ _ c.in_ok-read_coding.ensures.fills (
    filled_then _ _ _ _ _ _ _ _ _ _ _ c.in_ok-read_filters.ensures.fills (
    filled_then _ _ _ _ _ _ _ _ _ _ _ c.in_ok-read_scaling.ensures.fills (
    filled_then _ _ _ _ _ _ _ _ _ _ _ c.in_ok-read_merging.ensures.fills
    c.read_extensions.ensures.fills)))
