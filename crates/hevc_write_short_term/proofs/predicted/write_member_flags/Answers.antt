use Rattle.std.proofs.Common.{◌≡◌, [], ◌∷◌, List, take, pos, ℤ, rules, w32, SFits, to_z, of_z, subst, ◌∙◌}
use Rattle.std.proofs.lemmas.Int.{to_z-of_z}
use Rattle.hevc_tables.specs.declared.short_term_member.ShortTermMember.{ShortTermMember}
use Rattle.hevc_set_parts.specs.ShortTermRefPicSet.{plain_short_term_ref_pic_set}
use Rattle.hevc_tables.specs.ShortTermTable.{differences, shift_of}
use Rattle.hevc_write_short_term.specs.Members.{members_of, chosen_flags, WritesFlags}
use Rattle.hevc_write_short_term.proofs.MemberLists.{three_written}
use Rattle.hevc_write_short_term.proofs.predicted.write_member_flags.Goals as goal

pub returns : goal.returns
unfolding differences
returns c =
    let s = c.args.other.now in
    let shift = shift_of (plain_short_term_ref_pic_set c.args.x.now) in
    let ms = members_of (plain_short_term_ref_pic_set c.args.x.now) in
    let fits : SFits w32 c.shift_of-shift.result = search rules in
    let first = simp to_z-of_z at c.in_ok-write_flags_for.ensures in
    let second = simp to_z-of_z at c.in_ok-write_flags_for-2.ensures in
    let is_shift : to_z w32 (of_z w32 c.shift_of-shift.result) ≡ shift =
    to_z-of_z w32 c.shift_of-shift.result fits ∙ c.shift_of-shift.ensures in
    let is_members : c.as_slice-3.result.now ≡ ms = c.as_slice-3.ensures.value ∙ c.all_members-members.ensures in
    let last : WritesFlags (chosen_flags shift (pos 0 ∷ []) ms) c.write_flags_for-2.new.w c.write_flags_for-3.new.w =
    subst (λ (s : ℤ). WritesFlags (chosen_flags s (pos 0 ∷ []) ms) c.write_flags_for-2.new.w
    c.write_flags_for-3.new.w) is_shift
    (subst (λ (m : List ShortTermMember). WritesFlags
    (chosen_flags (to_z w32 (of_z w32 c.shift_of-shift.result)) (pos 0 ∷ []) m) c.write_flags_for-2.new.w
    c.write_flags_for-3.new.w) is_members c.in_ok-write_flags_for-3.ensures) in
    three_written shift (take s.num_negative_pics s.delta_poc_s0) (take s.num_positive_pics s.delta_poc_s1)
    (pos 0 ∷ []) ms _ _ _ _
    (simp (
      c.shift_of-shift.ensures,
      c.from.ensures,
      c.from-2.ensures,
      c.as_slice.ensures.value,
      c.all_members-members.ensures,
    ) at first)
    (simp (
      c.shift_of-shift.ensures,
      c.from.ensures,
      c.from-2.ensures,
      c.as_slice-2.ensures.value,
      c.all_members-members.ensures,
    ) at second)
    last
