use Rattle.std.proofs.Common.{arith, refl, ◌∙◌}
use Rattle.std.proofs.lemmas.Int.{ints}
use Rattle.hevc_tables.specs.SliceHeaderTable.{chroma_offset, chroma_offsets}
use Rattle.hevc_write_elements.proofs.Steps.{by, check_then, done_filled, then_filled, se_then}
use Rattle.hevc_write_elements.proofs.Chains.{is_present}
use Rattle.hevc_write_slice_header.proofs.quantisers.write_chroma_offsets_if.Goals as goal

pub returns : goal.returns
unfolding chroma_offsets chroma_offset
returns c = is_present c.if-not-present.false (record {
  written = λ y w.
      then_filled (se_then _ refl _ _ c.in_ok-se_i8.ensures
      (λ v1 b1 cb_qp_offset_row. check_then _ _ (λ held1. done_filled (
      then_filled (se_then _ refl _ _ c.in_ok-se_i8-2.ensures
      (λ v2 b2 cr_qp_offset_row. check_then _ _ (λ held2. done_filled (
      done_filled (λ e at.
      cr_qp_offset_row (by e (λ r. r.cr_qp_offset) ∙ omega (arith, ints))
      (cb_qp_offset_row (by e (λ r. r.cb_qp_offset) ∙ omega (arith, ints)) at))))))))));
})
