use Rattle.std.proofs.Common.{refl}
use Rattle.hevc_tables.specs.ProfileTierLevelTable.{profiles, compatibility_flags}
use Rattle.hevc_write_set_parts.specs.LayerParts as own
use Rattle.hevc_write_set_parts.proofs.LayerKeeps.{layer_row, compatibility_flags_keep}
use Rattle.hevc_write_elements.proofs.Chains.{bits_of, ending, flag_of, part_of, writes, ◌>>=◌}
use Rattle.hevc_write_set_parts.proofs.layer.write_profiles.Goals as goal

pub returns : goal.returns
unfolding profiles
returns c = λ scope. writes λ y w none. do
  rows ← bits_of _ (layer_row scope _) _ _ _ none (λ r. r.profile_space) c.in_ok-bits_u8.ensures
  rows ← flag_of _ (layer_row scope _) rows.known (λ r. r.tier_flag) c.in_ok-flag.ensures
  rows ← bits_of _ (layer_row scope _) _ _ _ rows.known (λ r. r.profile_idc) c.in_ok-bits_u8-2.ensures
  ending (part_of (compatibility_flags scope) own.compatibility_flags_of
      (compatibility_flags_keep scope) _ rows.known (c.in_ok-write_compatibility_flags.ensures scope) refl)
      (λ _ _ rows e at. rows.reach _ e refl at)
