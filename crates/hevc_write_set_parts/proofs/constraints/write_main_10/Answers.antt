use Rattle.std.proofs.Common.{refl}
use Rattle.hevc_tables.specs.ProfileTierLevelTable.{main_10_flags}
use Rattle.hevc_write_set_parts.proofs.LayerKeeps.{layer_row, layer_zeros}
use Rattle.hevc_write_elements.proofs.Chains.{done_filled, flag_of, writes, zeros_of, ◌>>=◌}
use Rattle.hevc_write_set_parts.proofs.constraints.write_main_10.Goals as goal

pub returns : goal.returns
unfolding main_10_flags
returns c = λ scope. writes λ y w none. do
  rows ← zeros_of _ _ (layer_zeros scope 10 7) none c.in_ok-zeros.ensures
  rows ← flag_of _ (layer_row scope _) rows.known (λ r. r.one_picture_only_constraint_flag) c.in_ok-flag.ensures
  rows ← zeros_of _ _ (layer_zeros scope 12 35) rows.known c.in_ok-zeros-2.ensures
  done_filled (λ e at. rows.known.reach _ e refl at)
