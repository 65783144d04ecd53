use Rattle.std.proofs.Common.{refl}
use Rattle.hevc_tables.specs.SliceHeaderTable.{colour_transform_offsets, extension_offsets}
use Rattle.hevc_write_slice_header.specs.HeaderParts as own
use Rattle.hevc_write_slice_header.proofs.HeaderKeeps.{colour_transform_offsets_keeps}
use Rattle.hevc_write_elements.proofs.Chains.{done_filled, always, flag_if_of, part_if_of, writes, ◌>>=◌}
use Rattle.hevc_write_slice_header.proofs.quantisers.write_extension_offsets.Goals as goal

pub returns : goal.returns
unfolding extension_offsets
returns c = writes λ y w none. do
  rows ← part_if_of colour_transform_offsets own.colour_transform_offsets_of colour_transform_offsets_keeps
      _ none (always _) c.in_ok-write_colour_transform_offsets_if.ensures refl
  rows ← flag_if_of _ refl _ _ rows.known (always _) (λ r. r.cu_chroma_qp_offset_enabled_flag) c.in_ok-flag_if.ensures
  done_filled (λ e at. rows.known.reach _ e refl at)
