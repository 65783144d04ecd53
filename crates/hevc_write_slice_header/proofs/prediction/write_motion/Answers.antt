use Rattle.std.proofs.Common.{refl}
use Rattle.hevc_tables.specs.SliceHeaderTable.{last_collocated, motion}
use Rattle.std.specs.Prelude.{◌==◌, not, ◌&&◌}
use Rattle.hevc_tables.specs.SliceTypes.{is_b}
use Rattle.hevc_write_elements.proofs.Chains.{done_filled, always, flag_if_of, ue_if_of, writes, ◌>>=◌}
use Rattle.hevc_write_slice_header.proofs.prediction.write_motion.Goals as goal

pub returns : goal.returns
unfolding motion
returns c = writes λ y w none. do
  rows ← flag_if_of _ refl _ _ none (λ r. is_b r.type_)
      (λ r. r.mvd_l1_zero_flag) (rw c.is_b.ensures at c.in_ok-flag_if.ensures)
  rows ← flag_if_of _ refl _ _ rows.known (always _) (λ r. r.cabac_init_flag) c.in_ok-flag_if-2.ensures
  rows ← flag_if_of _ refl _ _ rows.known (λ r. r.temporal_mvp_enabled_flag && is_b r.type_)
      (λ r. r.collocated_from_l0_flag) (rw c.has_collocated_list.ensures at c.in_ok-flag_if-3.ensures)
  rows ← ue_if_of _ refl _ _ _ _ rows.known
      (λ r. r.temporal_mvp_enabled_flag && not (last_collocated r == 0))
      (λ r. r.collocated_ref_idx) (rw c.has_collocated_index.ensures at c.in_ok-ue_u8_if.ensures)
  done_filled (λ e at. rows.known.reach _ e refl at)
