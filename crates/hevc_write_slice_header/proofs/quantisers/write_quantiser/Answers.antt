use Rattle.std.proofs.Common.{arith, refl, ◌∙◌}
use Rattle.std.proofs.lemmas.Int.{ints}
use Rattle.hevc_tables.specs.SliceHeaderTable.{chroma_offsets, quantiser}
use Rattle.hevc_write_slice_header.specs.HeaderParts as own
use Rattle.hevc_write_slice_header.proofs.HeaderKeeps.{chroma_offsets_keeps}
use Rattle.hevc_write_elements.proofs.Steps.{by, check_then, se_then, when_part_written}
use Rattle.hevc_write_slice_header.proofs.quantisers.write_quantiser.Goals as goal

pub returns : goal.returns
unfolding quantiser
returns c = record {
  written = λ y w.
      se_then _ refl _ _ c.in_ok-se_i8.ensures (λ v1 b1 qp_delta_row.
      check_then _ _ (λ held2.
      when_part_written (chroma_offsets _) own.chroma_offsets_of
      (chroma_offsets_keeps _) _ c.in_ok-write_chroma_offsets_if.ensures refl (λ v3 b3 chroma_offsets_rows e at.
      chroma_offsets_rows refl _ e refl ((qp_delta_row (by e (λ r. r.qp_delta) ∙ omega (arith, ints)) at)))));
}
