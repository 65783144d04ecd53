use Rattle.hevc_tables.specs.ProfileTierLevelTable.{next_sub_layer}
use Rattle.hevc_set_parts.specs.ProfileTierLevel.{plain_profile_tier_level}
use Rattle.hevc_write_set_parts.specs.ProfileParts.{SameSubLayers}
use Rattle.hevc_write_elements.specs.Filling.{WritesTurns}
use Rattle.hevc_write_set_parts.proofs.sub_layers.write_sub_layers.Given as goal

abbrev pub invariant-loop-i : goal.invariant-loop-i
invariant-loop-i l = WritesTurns next_sub_layer (SameSubLayers (plain_profile_tier_level l.x)) l.i l.fn.w l.w
