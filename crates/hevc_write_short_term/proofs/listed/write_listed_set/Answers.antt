use Rattle.std.proofs.Common.{refl, sym, ap, ◌∙◌}
use Rattle.hevc_tables.specs.ShortTermTable.{listed_set, with_members}
use Rattle.hevc_write_elements.proofs.Fillings.{weakened, beside}
use Rattle.hevc_write_elements.proofs.Steps.{by, done_filled, then_filled, ue_then}
use Rattle.hevc_write_short_term.specs.Members.{before_of, after_of}
use Rattle.hevc_write_short_term.proofs.MemberLists.{before_same, after_same}
use Rattle.hevc_write_short_term.proofs.Tables.{listed_before_long, listed_after_long}
use Rattle.hevc_write_short_term.proofs.listed.write_listed_set.Goals as goal

pub returns : goal.returns
unfolding listed_set with_members
returns c = λ most. record {
  written = λ y w.
      ue_then _ refl _ _ c.in_ok-ue_u8.ensures (λ v1 _ b1 num_negative_pics_row.
      ue_then _ refl _ _ c.in_ok-ue_u8-2.ensures (λ v2 _ b2 num_positive_pics_row.
      then_filled (weakened
      (beside (listed_before_long v1 b2) ((c.in_ok-write_members_before.ensures v1).written b2))
      (λ v3 b3 members_before_row.
      then_filled (weakened
      (beside (listed_after_long v2 b3) ((c.in_ok-write_members_after.ensures v2).written b3))
      (λ v4 b4 members_after_row.
      done_filled (λ e at.
      let before = sym (before_same y v3 v4) ∙ ap before_of e ∙ sym c.members_before.ensures.items
      ∙ sym c.as_slice.ensures.value in
      let after = sym (after_same y v3 v4) ∙ ap after_of e ∙ sym c.members_after.ensures.items
      ∙ sym c.as_slice-2.ensures.value in
      members_after_row.1 after
      (members_before_row.1 before
      (num_positive_pics_row (sym members_after_row.0 ∙ by e (λ r. r.num_positive_pics))
      (num_negative_pics_row (sym members_before_row.0 ∙ by e (λ r. r.num_negative_pics)) at))))))))));
}
