use Rattle.std.proofs.Common.{refl}
use Rattle.hevc_tables.specs.SpsTable.{window}
use Rattle.hevc_write_elements.proofs.Steps.{by, check_then, done_filled, ue_then}
use Rattle.hevc_write_elements.proofs.Chains.{is_present}
use Rattle.hevc_write_sps.proofs.format.write_window_if.Goals as goal

pub returns : goal.returns
unfolding window
returns c = is_present c.if-not-present.false (record {
  written = λ y w.
      ue_then _ refl _ _ c.in_ok-ue.ensures (λ v1 _ b1 conf_win_left_offset_row.
      ue_then _ refl _ _ c.in_ok-ue-2.ensures (λ v2 _ b2 conf_win_right_offset_row.
      ue_then _ refl _ _ c.in_ok-ue-3.ensures (λ v3 _ b3 conf_win_top_offset_row.
      ue_then _ refl _ _ c.in_ok-ue-4.ensures (λ v4 _ b4 conf_win_bottom_offset_row.
      check_then _ _ (λ held5.
      done_filled (λ e at.
      (conf_win_bottom_offset_row (by e (λ r. r.conf_win_bottom_offset))
      (conf_win_top_offset_row (by e (λ r. r.conf_win_top_offset))
      (conf_win_right_offset_row (by e (λ r. r.conf_win_right_offset))
      (conf_win_left_offset_row (by e (λ r. r.conf_win_left_offset)) at))))))))));
})
