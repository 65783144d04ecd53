use Rattle.std.proofs.Common.{refl}
use Rattle.hevc_tables.specs.ProfileTierLevelTable.{main_10_flags, reserved_bits, layer_conforms_to}
use Rattle.hevc_write_set_parts.specs.LayerParts as own
use Rattle.hevc_write_set_parts.proofs.LayerKeeps.{main_10_flags_keeps, reserved_bits_keeps}
use Rattle.hevc_write_elements.proofs.Chains.{either_part_of, ending, writes}
use Rattle.hevc_write_set_parts.proofs.constraints.write_other_constraints.Goals as goal

pub returns : goal.returns
returns c = λ scope. writes λ y w none.
    ending (either_part_of (main_10_flags scope) (reserved_bits scope) own.constraints_of
    (main_10_flags_keeps scope) (reserved_bits_keeps scope) _ _ none
    (λ r. layer_conforms_to r 2)
    (rw c.layer_conforms_to.ensures at (c.in_ok-write_either_rows.ensures scope)) refl)
    (λ _ _ rows e at. rows.reach _ e refl at)
