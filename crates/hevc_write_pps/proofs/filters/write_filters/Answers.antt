use Rattle.std.proofs.Common.{refl}
use Rattle.hevc_tables.specs.PpsTable.{deblocking, filters}
use Rattle.hevc_write_pps.specs.PpsParts as own
use Rattle.hevc_write_pps.proofs.PpsKeeps.{deblocking_keeps}
use Rattle.hevc_write_elements.proofs.Chains.{ending, flag_of, part_if_of, writes, ◌>>=◌}
use Rattle.hevc_write_pps.proofs.filters.write_filters.Goals as goal

pub returns : goal.returns
unfolding filters
returns c = writes λ y w none. do
  rows ← flag_of _ refl none (λ r. r.loop_filter_across_slices_enabled_flag) c.in_ok-flag.ensures
  rows ← flag_of _ refl rows.known (λ r. r.deblocking_filter_control_present_flag) c.in_ok-flag-2.ensures
  ending (part_if_of deblocking own.deblocking_of deblocking_keeps _ rows.known
      (λ r. r.deblocking_filter_control_present_flag) c.in_ok-write_deblocking_if.ensures refl)
      (λ _ _ rows e at. rows.reach _ e refl at)
