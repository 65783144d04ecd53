use Rattle.std.proofs.Common.{refl}
use Rattle.hevc_tables.specs.SliceHeaderTable.{ending, header_extension, parallel_parts}
use Rattle.hevc_write_slice_header.specs.HeaderParts as own
use Rattle.hevc_write_slice_header.proofs.HeaderKeeps.{header_extension_keeps, parallel_parts_keeps}
use Rattle.hevc_write_elements.proofs.Chains.{always, ending as last_of, part_if_of, writes, ◌>>=◌}
use Rattle.hevc_write_slice_header.proofs.ending.write_ending.Goals as goal

pub returns : goal.returns
unfolding ending
returns c = writes λ y w none. do
  rows ← part_if_of (parallel_parts _ _) own.parallel_parts_of (parallel_parts_keeps _ _) _ none (always _)
      (rw c.has_parallel_parts.ensures at c.in_ok-write_parallel_parts_if.ensures) refl
  last_of (part_if_of header_extension own.header_extension_of header_extension_keeps _ rows.known
      (always _) c.in_ok-write_header_extension_if.ensures refl) (λ _ _ rows e at. rows.reach _ e refl at)
