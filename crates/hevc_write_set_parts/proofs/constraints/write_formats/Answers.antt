use Rattle.std.proofs.Common.{refl}
use Rattle.hevc_tables.specs.ProfileTierLevelTable.{formats}
use Rattle.hevc_write_set_parts.proofs.LayerKeeps.{layer_row}
use Rattle.hevc_write_elements.proofs.Chains.{done_filled, flag_of, writes, ◌>>=◌}
use Rattle.hevc_write_set_parts.proofs.constraints.write_formats.Goals as goal

pub returns : goal.returns
unfolding formats
returns c = λ scope. writes λ y w none. do
  rows ← flag_of _ (layer_row scope _) none (λ r. r.max_12bit_constraint_flag) c.in_ok-flag.ensures
  rows ← flag_of _ (layer_row scope _) rows.known (λ r. r.max_10bit_constraint_flag) c.in_ok-flag-2.ensures
  rows ← flag_of _ (layer_row scope _) rows.known (λ r. r.max_8bit_constraint_flag) c.in_ok-flag-3.ensures
  rows ← flag_of _ (layer_row scope _) rows.known (λ r. r.max_422chroma_constraint_flag) c.in_ok-flag-4.ensures
  rows ← flag_of _ (layer_row scope _) rows.known (λ r. r.max_420chroma_constraint_flag) c.in_ok-flag-5.ensures
  rows ← flag_of _ (layer_row scope _) rows.known (λ r. r.max_monochrome_constraint_flag) c.in_ok-flag-6.ensures
  rows ← flag_of _ (layer_row scope _) rows.known (λ r. r.intra_constraint_flag) c.in_ok-flag-7.ensures
  rows ← flag_of _ (layer_row scope _) rows.known (λ r. r.one_picture_only_constraint_flag) c.in_ok-flag-8.ensures
  rows ← flag_of _ (layer_row scope _) rows.known (λ r. r.lower_bit_rate_constraint_flag) c.in_ok-flag-9.ensures
  done_filled (λ e at. rows.known.reach _ e refl at)
