use Rattle.hevc_tables.specs.ProfileTierLevelTable.{next_presence}
use Rattle.hevc_set_parts.specs.ProfileTierLevel.{plain_profile_tier_level}
use Rattle.hevc_write_set_parts.specs.ProfileParts.{same_presence}
use Rattle.hevc_write_elements.specs.Filling.{WritesTurns}
use Rattle.hevc_write_set_parts.proofs.sub_layers.write_presence.Given as goal

abbrev pub invariant-loop-i : goal.invariant-loop-i
invariant-loop-i l = WritesTurns next_presence (same_presence (plain_profile_tier_level l.x)) l.i l.fn.w l.w
