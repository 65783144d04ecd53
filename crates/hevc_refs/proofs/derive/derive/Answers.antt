use Rattle.std.proofs.lemmas.Int.{to_z-of_z}
use Rattle.hevc_refs.specs.Marking.{HasMembers}
use Rattle.std.proofs.Common.{ℤ, w32, subst, sym, ap, ◌∙◌, map}
use Rattle.hevc_walk.specs.Buffer.{Buffer}
use Rattle.hevc_walk.specs.ReferenceSets.{unmarked, short_term_set, five_lists, with_long_term, marked_if, all_members}
use Rattle.hevc_dpb.specs.Views.{buffer_of}
use Rattle.hevc_refs.specs.Sets.{plain_set}
use Rattle.hevc_refs.proofs.DeriveLaws.{idr_set, idr_marks, other_set, other_marks}
use Rattle.hevc_refs.proofs.derive.derive.Goals as goal

pub returns-then-is_idr-clause-derives : goal.returns-then-is_idr-clause-derives
returns-then-is_idr-clause-derives g c p first is_head has =
    let idr = sym (c.is_idr.ensures p is_head) ∙ c.if-is_idr.true in
    record {
      set = c.clear.ensures ∙ sym (idr_set p first (buffer_of c.args.dpb.now) idr);
      marks = c.mark_all_as_unused_for_ref.ensures.buffer
          ∙ ap (map unmarked) (c.unmark_before_sequence.ensures.buffer p is_head)
          ∙ sym (idr_marks p first (buffer_of c.args.dpb.now) idr);
    }

pub returns-clause-derives : goal.returns-clause-derives
returns-clause-derives g c p first is_head has =
    let has_members =
    subst (λ (x : ℤ). HasMembers first c.args.header.now c.args.set.now x)
    (sym (to_z-of_z w32 c.args.max_pic_order_cnt_lsb c.ranges.max_pic_order_cnt_lsb)) has in
    let found = c.derive_members.ensures.finds p first is_head has_members in
    let before = c.unmark_before_sequence.ensures.buffer p is_head in
    let set = found.lists
    ∙ ap (λ (b : Buffer). five_lists p first (short_term_set first) b (with_long_term p first b)) before
    ∙ sym (other_set p first (buffer_of c.args.dpb.now) (sym (c.is_idr.ensures p is_head) ∙ c.if-is_idr.false)) in
    record {
      set = set;
      marks = found.marks
          ∙ ap (λ (b : Buffer). map (marked_if (all_members (plain_set c.derive_members.new.out)))
          (with_long_term p first b)) before
          ∙ other_marks p first (buffer_of c.args.dpb.now) (plain_set c.derive_members.new.out) set;
    }
