use Rattle.std.proofs.Common.{refl}
use Rattle.hevc_tables.specs.ProfileTierLevelTable.{constraints, range_extensions_flags}
use Rattle.hevc_write_set_parts.specs.LayerParts as own
use Rattle.hevc_write_set_parts.proofs.LayerKeeps.{range_extensions_flags_keeps, other_constraints_keep}
use Rattle.hevc_records.specs.ProfileConformance.{has_range_extensions_flags}
use Rattle.hevc_write_elements.proofs.Chains.{either_part_of, ending, writes}
use Rattle.hevc_write_set_parts.proofs.constraints.write_constraints.Goals as goal

pub returns : goal.returns
unfolding constraints
returns c = λ scope. writes λ y w none.
    ending (either_part_of (range_extensions_flags scope) (own.other_constraints scope) own.constraints_of
    (range_extensions_flags_keeps scope) (other_constraints_keep scope) _ _ none
    (λ r. has_range_extensions_flags r.profile_idc r.profile_compatibility_flag)
    (rw c.has_extensions.ensures at (c.in_ok-write_either_constraints.ensures scope)) refl)
    (λ _ _ rows e at. rows.reach _ e refl at)
