use Rattle.hevc_tables.specs.ProfileTierLevelTable.{Scope, compatibility_flag}
use Rattle.hevc_write_elements.specs.Filling.{WritesTurns}
use Rattle.hevc_write_set_parts.specs.LayerParts.{same_flags}
use Rattle.hevc_profile.specs.LayerProfile.{plain_layer_profile}
use Rattle.hevc_write_set_parts.proofs.layer.write_compatibility_flags.Given as goal

abbrev pub invariant-loop-i : goal.invariant-loop-i
invariant-loop-i l = (scope : Scope)
    → WritesTurns (compatibility_flag scope) (same_flags (plain_layer_profile l.layer)) l.i l.fn.w l.w
