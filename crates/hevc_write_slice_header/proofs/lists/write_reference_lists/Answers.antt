use Rattle.std.proofs.Common.{refl}
use Rattle.hevc_tables.specs.SliceHeaderTable.{active_counts, has_list_modification}
use Rattle.hevc_tables.specs.SliceHeaderTable.{list_modification, reference_lists, with_pictures}
use Rattle.hevc_sequence_set.specs.Sps.{plain_sps}
use Rattle.hevc_picture_slice.specs.Pps.{plain_pps}
use Rattle.hevc_write_slice_header.specs.HeaderParts as own
use Rattle.hevc_write_slice_header.proofs.HeaderKeeps.{active_counts_keeps, list_modification_keeps}
use Rattle.hevc_write_elements.proofs.Chains.{ending, part_if_of, part_of, writes, ◌>>=◌}
use Rattle.hevc_write_slice_header.proofs.lists.write_reference_lists.Goals as goal

pub returns : goal.returns
unfolding reference_lists with_pictures
returns c = writes λ y w none. do
  rows ← part_of (active_counts _) own.active_counts_of (active_counts_keeps _)
      (with_pictures (plain_sps c.args.sps.now) (plain_pps c.args.pps.now) y) none
      c.in_ok-write_active_counts.ensures refl
  ending (part_if_of list_modification own.list_modification_of list_modification_keeps _ rows.known
      (λ r. has_list_modification (plain_pps c.args.pps.now) r)
      (rw c.has_list_modification.ensures at c.in_ok-write_list_modification_if.ensures) refl)
      (λ _ _ rows e at. rows.reach _ e refl at)
