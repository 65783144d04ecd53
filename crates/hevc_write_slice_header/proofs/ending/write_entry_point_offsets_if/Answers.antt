use Rattle.std.proofs.Common.{◌≡◌, ◌≤◌, ◌+◌, ℕ, refl, sym, subst, ◌∙◌, arith}
use Rattle.std.proofs.lemmas.Bool.Decides.{nat_tests}
use Rattle.hevc_tables.specs.SliceHeaderTable.{entry_point_offsets, entry_points}
use Rattle.hevc_picture_slice.specs.SliceHeader.{plain_slice_header}
use Rattle.hevc_write_elements.proofs.Steps.{by, done_filled, then_filled, ue_then, one_table_written, numbers}
use Rattle.hevc_write_slice_header.proofs.HeaderKeeps.{entry_points_fillable}
use Rattle.hevc_write_elements.proofs.Chains.{is_present}
use Rattle.hevc_write_slice_header.proofs.ending.write_entry_point_offsets_if.Goals as goal

pub returns : goal.returns
unfolding entry_point_offsets
returns c =
    let x = plain_slice_header c.args.x.now in
    is_present c.if-not-present.false (record {
      written = λ y w.
          ue_then _ refl _ _ c.in_ok-ue_u8.ensures (λ v1 few b1 ue_u8_row.
          then_filled (one_table_written (λ (k : ℕ). entry_points (k + 1) y.num_entry_point_offsets)
          (λ k. entry_points_fillable (k + 1) y.num_entry_point_offsets) v1 c.offset_len_minus1.result
          (numbers v1 c.offset_len_minus1.result)
          (c.in_ok-write_entry_points.ensures y.num_entry_point_offsets) (λ v2 b2 entry_point_offset_minus1_row.
          done_filled (λ e at.
          let len : v1 ≡ x.offset_len_minus1 = by e (λ r. r.offset_len_minus1) in
          let few_bits : x.offset_len_minus1 ≤ 31 = rw (← len) (grind (arith, nat_tests, few)) in
          entry_point_offset_minus1_row (len ∙ sym (c.offset_len_minus1.ensures.value few_bits))
          (by e (λ r. r.entry_point_offset_minus1) ∙ sym c.as_slice.ensures) (ue_u8_row len at)))));
    })
