use Rattle.std.proofs.Common.{refl}
use Rattle.hevc_tables.specs.ProfileTierLevelTable.{layer_profile, profiles, source, constraints, inbld}
use Rattle.hevc_write_set_parts.specs.LayerParts as own
use Rattle.hevc_write_set_parts.proofs.LayerKeeps.{profiles_keeps, source_keeps, constraints_keep, inbld_keeps}
use Rattle.hevc_write_elements.proofs.Chains.{ending, part_of, writes_table, ◌>>=◌}
use Rattle.hevc_write_set_parts.proofs.layer.write_layer_profile.Goals as goal

pub returns : goal.returns
unfolding layer_profile
returns c = λ scope. writes_table λ w none. do
  rows ← part_of (profiles scope) own.profiles_of (profiles_keeps scope) _ none
      (c.in_ok-write_profiles.ensures scope) refl
  rows ← part_of (source scope) own.source_of (source_keeps scope) _ rows.known
      (c.in_ok-write_source.ensures scope) refl
  rows ← part_of (constraints scope) own.constraints_of (constraints_keep scope) _ rows.known
      (c.in_ok-write_constraints.ensures scope) refl
  ending (part_of (inbld scope) own.inbld_of (inbld_keeps scope) _ rows.known
      (c.in_ok-write_inbld.ensures scope) refl) (λ _ _ rows e at. rows.reach _ e refl at)
