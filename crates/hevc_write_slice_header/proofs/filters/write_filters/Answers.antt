use Rattle.std.proofs.Common.{refl}
use Rattle.hevc_tables.specs.SliceHeaderTable.{across_slices, filters, own_deblocking}
use Rattle.hevc_write_slice_header.specs.HeaderParts as own
use Rattle.hevc_write_slice_header.proofs.HeaderKeeps.{across_slices_keeps, own_deblocking_keeps}
use Rattle.hevc_write_elements.proofs.Chains.{always, ending, flag_if_of, part_if_of, part_of, writes, ◌>>=◌}
use Rattle.hevc_write_slice_header.proofs.filters.write_filters.Goals as goal

pub returns : goal.returns
unfolding filters
returns c = writes λ y w none. do
  rows ← flag_if_of _ refl _ _ none (always _) (λ r. r.deblocking_filter_override_flag) c.in_ok-flag_if.ensures
  rows ← part_if_of own_deblocking own.own_deblocking_of own_deblocking_keeps _ rows.known
      (λ r. r.deblocking_filter_override_flag) c.in_ok-write_own_deblocking_if.ensures refl
  ending (part_of (across_slices _) own.across_slices_of
      (across_slices_keeps _) _ rows.known c.in_ok-write_across_slices.ensures refl)
      (λ _ _ rows e at. rows.reach _ e refl at)
