use Rattle.std.proofs.Common.{refl}
use Rattle.hevc_tables.specs.ProfileTierLevelTable.{source}
use Rattle.hevc_write_set_parts.proofs.LayerKeeps.{layer_row}
use Rattle.hevc_write_elements.proofs.Chains.{done_filled, flag_of, writes, ◌>>=◌}
use Rattle.hevc_write_set_parts.proofs.layer.write_source.Goals as goal

pub returns : goal.returns
unfolding source
returns c = λ scope. writes λ y w none. do
  rows ← flag_of _ (layer_row scope _) none (λ r. r.progressive_source_flag) c.in_ok-flag.ensures
  rows ← flag_of _ (layer_row scope _) rows.known (λ r. r.interlaced_source_flag) c.in_ok-flag-2.ensures
  rows ← flag_of _ (layer_row scope _) rows.known (λ r. r.non_packed_constraint_flag) c.in_ok-flag-3.ensures
  rows ← flag_of _ (layer_row scope _) rows.known (λ r. r.frame_only_constraint_flag) c.in_ok-flag-4.ensures
  done_filled (λ e at. rows.known.reach _ e refl at)
