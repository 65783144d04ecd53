use Rattle.std.proofs.Common.{arith, refl, ◌≤◌}
use Rattle.std.proofs.lemmas.Bool.Decides.{nat_tests}
use Rattle.hevc_tables.specs.PpsRangeExtensionTable.{offset_lists, offset_pairs}
use Rattle.hevc_write_extensions.specs.PpsRangeExtensionParts as own
use Rattle.hevc_write_extensions.proofs.PpsRangeExtensionKeeps.{offset_pairs_keep}
use Rattle.hevc_write_elements.proofs.Steps.{by, counted_part_written, ue_then}
use Rattle.hevc_write_elements.proofs.Chains.{is_present}
use Rattle.hevc_write_extensions.proofs.pps_range_extension.write_offset_lists_if.Goals as goal

pub returns : goal.returns
unfolding offset_lists
returns c = is_present c.if-not-present.false (record {
  written = λ y w.
      ue_then _ refl _ _ c.in_ok-ue.ensures (λ v1 _ b1 diff_cu_chroma_qp_offset_depth_row.
      ue_then _ refl _ _ c.in_ok-ue-2.ensures (λ v2 in2 b2 ue_2_row.
      counted_part_written offset_pairs own.offset_pairs_of offset_pairs_keep _ _
      c.in_ok-write_offset_pairs.ensures refl (λ v3 b3 offset_pairs_rows e at.
      let is = by e (λ r. r.chroma_qp_offset_list_len_minus1) in
      let few : v2 ≤ 5 = grind (arith, nat_tests, in2) in
      offset_pairs_rows (omega (arith, is, few)) _ e refl
      (ue_2_row is (diff_cu_chroma_qp_offset_depth_row (by e (λ r. r.diff_cu_chroma_qp_offset_depth)) at)))));
})
