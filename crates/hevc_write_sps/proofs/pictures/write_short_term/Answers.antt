use Rattle.std.proofs.Common.{ℕ, refl}
use Rattle.hevc_tables.specs.SpsTable.{highest_buffering, short_term, short_term_sets}
use Rattle.hevc_write_sps.proofs.SpsKeeps.{short_term_sets_fillable}
use Rattle.hevc_write_elements.proofs.Steps.{by, done_filled, numbers, one_table_written, then_filled, ue_then}
use Rattle.hevc_write_sps.proofs.pictures.write_short_term.Goals as goal

pub returns : goal.returns
unfolding short_term
returns c = record {
  written = λ y w.
      ue_then _ refl _ _ c.in_ok-ue_u8.ensures (λ v1 _ b1 num_short_term_ref_pic_sets_row.
      then_filled (one_table_written (λ (k : ℕ). short_term_sets k (highest_buffering y))
      (λ k. short_term_sets_fillable k (highest_buffering y)) _ _ (numbers _ _)
      (c.in_ok-write_short_term_sets.ensures _) (λ v2 b2 short_term_ref_pic_set_row.
      done_filled (λ e at.
      short_term_ref_pic_set_row (by e (λ r. r.num_short_term_ref_pic_sets))
      (by e (λ r. r.short_term_ref_pic_set))
      (num_short_term_ref_pic_sets_row (by e (λ r. r.num_short_term_ref_pic_sets)) at)))));
}
