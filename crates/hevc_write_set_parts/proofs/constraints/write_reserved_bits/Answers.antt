use Rattle.std.proofs.Common.{refl}
use Rattle.hevc_tables.specs.ProfileTierLevelTable.{reserved_bits}
use Rattle.hevc_write_set_parts.proofs.LayerKeeps.{layer_zeros}
use Rattle.hevc_write_elements.proofs.Chains.{done_filled, writes, zeros_of, ◌>>=◌}
use Rattle.hevc_write_set_parts.proofs.constraints.write_reserved_bits.Goals as goal

pub returns : goal.returns
unfolding reserved_bits
returns c = λ scope. writes λ y w none. do
  rows ← zeros_of _ _ (layer_zeros scope 13 43) none c.in_ok-zeros.ensures
  done_filled (λ e at. rows.known.reach _ e refl at)
