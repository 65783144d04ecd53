use Rattle.std.proofs.Common.{refl}
use Rattle.hevc_tables.specs.SliceHeaderTable.{adaptive_offset}
use Rattle.hevc_write_elements.proofs.Chains.{done_filled, always, flag_if_of, writes, ◌>>=◌}
use Rattle.hevc_write_slice_header.proofs.filters.write_adaptive_offset.Goals as goal

pub returns : goal.returns
unfolding adaptive_offset
returns c = writes λ y w none. do
  rows ← flag_if_of _ refl _ _ none (always _) (λ r. r.sao_luma_flag) c.in_ok-flag_if.ensures
  rows ← flag_if_of _ refl _ _ rows.known (always _)
      (λ r. r.sao_chroma_flag) (rw c.has_chroma_offset.ensures at c.in_ok-flag_if-2.ensures)
  done_filled (λ e at. rows.known.reach _ e refl at)
