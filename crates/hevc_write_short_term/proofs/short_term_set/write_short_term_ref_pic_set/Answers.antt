use Rattle.std.proofs.Common.{refl}
use Rattle.hevc_tables.specs.ShortTermTable.{short_term_ref_pic_set, predicted_set, listed_set}
use Rattle.hevc_write_elements.proofs.Steps.{by, flag_if_then, either_part_written}
use Rattle.hevc_write_short_term.proofs.Tables.{members, predicted_keeps, listed_keeps}
use Rattle.hevc_write_short_term.proofs.short_term_set.write_short_term_ref_pic_set.Goals as goal

pub returns-clause-rows : goal.returns-clause-rows
unfolding short_term_ref_pic_set
returns-clause-rows c = λ most. record {
  written = λ w.
      flag_if_then _ refl _ _ c.in_ok-flag_if.ensures (λ v1 b1 inter_ref_pic_set_prediction_flag_row.
      either_part_written (predicted_set _ _ _) (listed_set _) members (predicted_keeps _ _ _)
      (listed_keeps _) _ _ (c.in_ok-write_members.ensures.rows most) refl
      (λ v2 b2 inter_ref_pic_set_prediction_flag_row_2 e at.
      inter_ref_pic_set_prediction_flag_row_2 (by e (λ r. r.inter_ref_pic_set_prediction_flag)) _ e refl
      (inter_ref_pic_set_prediction_flag_row refl (by e (λ r. r.inter_ref_pic_set_prediction_flag)) at)));
}
