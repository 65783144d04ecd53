use Rattle.std.proofs.Common.{refl, sym, ◌+◌, ◌∙◌}
use Rattle.hevc_tables.specs.RefPicListModificationTable.{modification_l0}
use Rattle.hevc_spec.specs.Rows.{row}
use Rattle.hevc_write_slice_parts.proofs.ListKeeps.{entries_fillable}
use Rattle.hevc_write_elements.proofs.Steps.{by, done_filled, flag_then, then_filled, when_written, where_present}
use Rattle.hevc_write_slice_parts.proofs.list_modification.write_l0.Goals as goal

pub returns : goal.returns
unfolding modification_l0
returns c = λ active. record {
  written = λ y w.
      flag_then _ refl c.in_ok-flag.ensures (λ v1 b1 ref_pic_list_modification_flag_l0_row.
      then_filled (when_written _ _ _ (entries_fillable (row 15 2) refl _ _)
      (where_present (λ h. h.written (row 15 2) refl (active + 1)) c.in_ok-write_entries_if.ensures)
      (λ v2 b2 list_entry_l0_row.
      done_filled (λ e at.
      list_entry_l0_row (by e (λ r. r.ref_pic_list_modification_flag_l0)) (by e (λ r. r.list_entry_l0)
      ∙ sym c.as_slice-entries.ensures.value)
      (ref_pic_list_modification_flag_l0_row (by e (λ r. r.ref_pic_list_modification_flag_l0)) at)))));
}
