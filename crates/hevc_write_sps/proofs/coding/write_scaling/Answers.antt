use Rattle.std.proofs.Common.{refl}
use Rattle.hevc_tables.specs.SpsTable.{scaling, scaling_lists}
use Rattle.hevc_write_sps.specs.SpsParts as own
use Rattle.hevc_write_sps.proofs.SpsKeeps.{scaling_lists_keeps}
use Rattle.hevc_write_elements.proofs.Chains.{ending, flag_if_of, flag_of, part_if_of, ue_of, writes, ◌>>=◌}
use Rattle.hevc_write_sps.proofs.coding.write_scaling.Goals as goal

pub returns : goal.returns
unfolding scaling
returns c = writes λ y w none. do
  rows ← ue_of _ refl _ _ none (λ r. r.max_transform_hierarchy_depth_inter) c.in_ok-ue_u8.ensures
  rows ← ue_of _ refl _ _ rows.known (λ r. r.max_transform_hierarchy_depth_intra) c.in_ok-ue_u8-2.ensures
  rows ← flag_of _ refl rows.known (λ r. r.scaling_list_enabled_flag) c.in_ok-flag.ensures
  rows ← flag_if_of _ refl _ _ rows.known (λ r. r.scaling_list_enabled_flag)
      (λ r. r.scaling_list_data_present_flag) c.in_ok-flag_if.ensures
  ending (part_if_of scaling_lists own.scaling_lists_of scaling_lists_keeps _ rows.known
      (λ r. r.scaling_list_data_present_flag) c.in_ok-write_scaling_lists_if.ensures refl)
      (λ _ _ rows e at. rows.reach _ e refl at)
