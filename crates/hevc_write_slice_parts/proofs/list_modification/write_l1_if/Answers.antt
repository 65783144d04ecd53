use Rattle.std.proofs.Common.{refl, sym, ◌+◌, ◌∙◌}
use Rattle.hevc_tables.specs.RefPicListModificationTable.{modification_l1}
use Rattle.hevc_spec.specs.Rows.{row}
use Rattle.hevc_write_slice_parts.proofs.ListKeeps.{entries_fillable}
use Rattle.hevc_write_elements.proofs.Steps.{by, done_filled, flag_then, then_filled, when_written, where_present}
use Rattle.hevc_write_elements.proofs.Chains.{is_present}
use Rattle.hevc_write_slice_parts.proofs.list_modification.write_l1_if.Goals as goal

pub returns : goal.returns
unfolding modification_l1
returns c = λ active. is_present c.if-not-present.false (record {
  written = λ y w.
      flag_then _ refl c.in_ok-flag.ensures (λ v1 b1 ref_pic_list_modification_flag_l1_row.
      then_filled (when_written _ _ _ (entries_fillable (row 15 4) refl _ _)
      (where_present (λ h. h.written (row 15 4) refl (active + 1)) c.in_ok-write_entries_if.ensures)
      (λ v2 b2 list_entry_l1_row.
      done_filled (λ e at.
      list_entry_l1_row (by e (λ r. r.ref_pic_list_modification_flag_l1)) (by e (λ r. r.list_entry_l1)
      ∙ sym c.as_slice-entries.ensures.value)
      (ref_pic_list_modification_flag_l1_row (by e (λ r. r.ref_pic_list_modification_flag_l1)) at)))));
})
