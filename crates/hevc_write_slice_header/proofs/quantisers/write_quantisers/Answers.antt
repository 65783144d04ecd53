use Rattle.std.proofs.Common.{refl}
use Rattle.hevc_tables.specs.SliceHeaderTable.{extension_offsets, quantiser, quantisers}
use Rattle.hevc_write_slice_header.specs.HeaderParts as own
use Rattle.hevc_write_slice_header.proofs.HeaderKeeps.{extension_offsets_keeps, quantiser_keeps}
use Rattle.hevc_write_elements.proofs.Chains.{ending, part_of, writes, ◌>>=◌}
use Rattle.hevc_write_slice_header.proofs.quantisers.write_quantisers.Goals as goal

pub returns : goal.returns
unfolding quantisers
returns c = writes λ y w none. do
  rows ← part_of (quantiser _) own.quantiser_of (quantiser_keeps _) _ none c.in_ok-write_quantiser.ensures refl
  ending (part_of (extension_offsets _) own.extension_offsets_of
      (extension_offsets_keeps _) _ rows.known c.in_ok-write_extension_offsets.ensures refl)
      (λ _ _ rows e at. rows.reach _ e refl at)
