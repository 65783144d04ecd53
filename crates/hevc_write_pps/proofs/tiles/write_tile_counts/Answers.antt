use Rattle.std.proofs.Common.{refl}
use Rattle.hevc_tables.specs.PpsTable.{tile_counts}
use Rattle.hevc_write_elements.proofs.Chains.{done_filled, flag_of, ue_of, writes, ◌>>=◌}
use Rattle.hevc_write_pps.proofs.tiles.write_tile_counts.Goals as goal

pub returns : goal.returns
unfolding tile_counts
returns c = λ sps. writes λ y w none. do
  rows ← ue_of _ refl _ _ none (λ r. r.num_tile_columns_minus1) c.in_ok-ue_u8.ensures
  rows ← ue_of _ refl _ _ rows.known (λ r. r.num_tile_rows_minus1) c.in_ok-ue_u8-2.ensures
  rows ← flag_of _ refl rows.known (λ r. r.uniform_spacing_flag) c.in_ok-flag.ensures
  done_filled (λ e at. rows.known.reach _ e refl at)
