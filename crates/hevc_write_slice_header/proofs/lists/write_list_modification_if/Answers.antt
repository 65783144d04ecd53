use Rattle.std.proofs.Common.{Bool, ap₂, refl, sym, ℕ, ◌∙◌}
use Rattle.hevc_tables.specs.SliceHeaderTable.{list_modification}
use Rattle.hevc_tables.specs.SliceTypes.{is_b}
use Rattle.hevc_tables.specs.RefPicListModificationTable.{ref_pic_list_modification}
use Rattle.hevc_write_slice_parts.proofs.ListKeeps.{list_modification_fillable}
use Rattle.hevc_write_elements.proofs.Steps.{by, done_filled, flags, numbers, one_table_written, pairs, then_filled}
use Rattle.hevc_write_elements.proofs.Chains.{is_present}
use Rattle.hevc_write_slice_header.proofs.lists.write_list_modification_if.Goals as goal

pub returns : goal.returns
unfolding list_modification
returns c = is_present c.if-not-present.false (record {
  written = λ y w.
      then_filled (one_table_written
      (λ (k : Bool × ℕ). ref_pic_list_modification k.0 k.1 y.num_ref_idx_l0_active_minus1
      y.num_ref_idx_l1_active_minus1)
      (λ k. list_modification_fillable k.0 k.1 y.num_ref_idx_l0_active_minus1
      y.num_ref_idx_l1_active_minus1) (is_b y.type_, y.num_pic_total_curr)
      (c.is_b.result, c.args.x.now.num_pic_total_curr)
      (pairs (flags (is_b y.type_) c.is_b.result)
      (numbers y.num_pic_total_curr c.args.x.now.num_pic_total_curr))
      (c.in_ok-write_ref_pic_list_modification.ensures y.num_ref_idx_l0_active_minus1
      y.num_ref_idx_l1_active_minus1) (λ v1 b1 ref_pic_list_modification_row.
      done_filled (λ e at.
      ref_pic_list_modification_row
      (ap₂ (λ (b : Bool) (n : ℕ). (b, n)) ((by e (λ r. is_b r.type_)) ∙ sym c.is_b.ensures)
      (by e (λ r. r.num_pic_total_curr))) (by e (λ r. r.ref_pic_list_modification)) at)));
})
