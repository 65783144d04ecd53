use Rattle.std.proofs.Common.{refl}
use Rattle.hevc_tables.specs.SliceHeaderTable.{own_active_counts}
use Rattle.hevc_tables.specs.SliceTypes.{is_b}
use Rattle.hevc_write_elements.proofs.Chains.{done_filled, ue_if_of, ue_of, writes_if, ◌>>=◌}
use Rattle.hevc_write_slice_header.proofs.lists.write_own_active_counts_if.Goals as goal

pub returns : goal.returns
unfolding own_active_counts
returns c = writes_if c.if-not-present.false λ y w none. do
  rows ← ue_of _ refl _ _ none (λ r. r.num_ref_idx_l0_active_minus1) c.in_ok-ue_u8.ensures
  rows ← ue_if_of _ refl _ _ _ _ rows.known (λ r. is_b r.type_)
      (λ r. r.num_ref_idx_l1_active_minus1) (rw c.is_b.ensures at c.in_ok-ue_u8_if.ensures)
  done_filled (λ e at. rows.known.reach _ e refl at)
