use Rattle.std.proofs.Common.{refl}
use Rattle.hevc_tables.specs.RefPicListModificationTable.{ref_pic_list_modification, modification_l0, modification_l1}
use Rattle.hevc_write_slice_parts.specs.ListParts as own
use Rattle.hevc_write_slice_parts.proofs.ListKeeps.{modification_l0_keeps, modification_l1_keeps}
use Rattle.hevc_write_elements.proofs.Chains.{always, ending, part_if_of, part_of, writes_table, ◌>>=◌}
use Rattle.hevc_write_slice_parts.proofs.list_modification.write_ref_pic_list_modification.Goals as goal

pub returns : goal.returns
unfolding ref_pic_list_modification
returns c = λ active_l0 active_l1. writes_table λ w none. do
  rows ← part_of (modification_l0 _ _) own.modification_l0_of (modification_l0_keeps _ _) _ none
      (c.in_ok-write_l0.ensures active_l0) refl
  ending (part_if_of (modification_l1 _ _) own.modification_l1_of (modification_l1_keeps _ _) _ rows.known
      (always _) (c.in_ok-write_l1_if.ensures active_l1) refl) (λ _ _ rows e at. rows.reach _ e refl at)
