use Rattle.std.proofs.Common.{refl}
use Rattle.hevc_tables.specs.SliceHeaderTable.{entry_point_offsets, parallel_parts}
use Rattle.hevc_write_slice_header.specs.HeaderParts as own
use Rattle.hevc_write_slice_header.proofs.HeaderKeeps.{entry_point_offsets_keeps}
use Rattle.std.specs.Prelude.{◌==◌, not}
use Rattle.hevc_write_elements.proofs.Chains.{ending, part_if_of, ue_of, writes_if, ◌>>=◌}
use Rattle.hevc_write_slice_header.proofs.ending.write_parallel_parts_if.Goals as goal

pub returns : goal.returns
unfolding parallel_parts
returns c = writes_if c.if-not-present.false λ y w none. do
  rows ← ue_of _ refl _ _ none (λ r. r.num_entry_point_offsets) c.in_ok-ue.ensures
  ending (part_if_of entry_point_offsets own.entry_point_offsets_of entry_point_offsets_keeps _ rows.known
      (λ r. not (r.num_entry_point_offsets == 0)) c.in_ok-write_entry_point_offsets_if.ensures refl)
      (λ _ _ rows e at. rows.reach _ e refl at)
