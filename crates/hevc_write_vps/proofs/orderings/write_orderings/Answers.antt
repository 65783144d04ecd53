use Rattle.std.proofs.Common.{refl}
use Rattle.hevc_tables.specs.VpsTable.{common_ordering, orderings, own_orderings}
use Rattle.hevc_write_vps.specs.VpsParts as own
use Rattle.hevc_write_vps.proofs.VpsKeeps.{common_ordering_keeps, own_orderings_keeps}
use Rattle.hevc_write_elements.proofs.Chains.{either_part_of, ending, flag_of, writes, ◌>>=◌}
use Rattle.hevc_write_vps.proofs.orderings.write_orderings.Goals as goal

pub returns : goal.returns
unfolding orderings
returns c = writes λ y w none. do
  rows ← flag_of _ refl none (λ r. r.sub_layer_ordering_info_present_flag) c.in_ok-flag.ensures
  ending (either_part_of own_orderings common_ordering own.own_orderings_of own_orderings_keeps
      common_ordering_keeps _ _ rows.known
      (λ r. r.sub_layer_ordering_info_present_flag) c.in_ok-write_own_orderings_or_common_ordering.ensures
      refl) (λ _ _ rows e at. rows.reach _ e refl at)
