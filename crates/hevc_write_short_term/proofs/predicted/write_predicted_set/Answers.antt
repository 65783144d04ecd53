use Rattle.std.proofs.Common.{◌++◌, [], ◌∷◌, pos, subst, map, refl, sym, ◌∙◌, arith}
use Rattle.hevc_set_parts.specs.ShortTermRefPicSet.{plain_short_term_ref_pic_set}
use Rattle.hevc_tables.specs.ShortTermTable.{differences, shift_of, predicted_set, prediction, predicted_members}
use Rattle.hevc_records.specs.ShortTermRefPicSet.{PlainShortTermRefPicSet}
use Rattle.hevc_write_short_term.specs.Members.{chosen_flags, members_of, WritesFlags}
use Rattle.hevc_write_elements.proofs.Fillings.{weakened, beside}
use Rattle.hevc_write_elements.proofs.Steps.{by, done_filled, then_filled, flag_then, ue_then, ue_if_then}
use Rattle.hevc_write_short_term.proofs.Distinct.{apart, many}
use Rattle.hevc_write_short_term.proofs.Tables.{members_written, rows_before_kept}
use Rattle.hevc_write_short_term.proofs.predicted.write_predicted_set.Goals as goal

pub returns-clause-rows : goal.returns-clause-rows
unfolding predicted_set prediction predicted_members
returns-clause-rows c =
    let other = c.other_set.result in
    record {
      written = λ y w.
          then_filled (ue_if_then _ refl _ _ _ _ c.in_ok-ue_u8_if.ensures (λ v1 b1 delta_idx_minus1_row.
          flag_then _ refl c.in_ok-flag.ensures (λ v2 b2 delta_rps_sign_row.
          ue_then _ refl _ _ c.in_ok-ue.ensures (λ v3 _ b3 abs_delta_rps_minus1_row.
          done_filled (weakened
          (beside (rows_before_kept (map plain_short_term_ref_pic_set c.args.sets.now) c.args.st_rps_idx _ b3)
          (members_written (map plain_short_term_ref_pic_set c.args.sets.now) c.args.st_rps_idx
          (plain_short_term_ref_pic_set c.args.x.now) _
          (plain_short_term_ref_pic_set other) b3 _ _ c.other_set.ensures
          (apart other (omega arith) (omega arith))
          (many other (omega arith) (omega arith)) c.in_ok-write_member_flags.ensures)) (λ z all h e at.
          h.1 e (abs_delta_rps_minus1_row (sym h.0.2 ∙ by e (λ r. r.abs_delta_rps_minus1)
          ∙ sym c.from.ensures)
          (delta_rps_sign_row (sym h.0.1 ∙ by e (λ r. r.delta_rps_sign))
          (delta_idx_minus1_row refl (sym h.0.0 ∙ by e (λ r. r.delta_idx_minus1)) at)))))))));
    }

pub returns-clause-flags : goal.returns-clause-flags
returns-clause-flags c =
    let x = plain_short_term_ref_pic_set c.args.x.now in (
      c.ue.new.w,
      subst (λ (other : PlainShortTermRefPicSet). WritesFlags
          (chosen_flags (shift_of x) (differences other ++ pos 0 ∷ []) (members_of x)) c.ue.new.w
          c.write_member_flags.new.w) c.other_set.ensures c.in_ok-write_member_flags.ensures,
    )
