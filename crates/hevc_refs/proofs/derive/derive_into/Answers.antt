use Rattle.std.proofs.Common.{◌≡◌, ℤ, w32, subst, sym, ap, ◌∙◌}
use Rattle.std.specs.Prelude.{All}
use Rattle.std.proofs.lemmas.Int.{to_z-of_z}
use Rattle.hevc_walk.specs.Buffer.{Buffer, is_reference}
use Rattle.hevc_walk.specs.ReferenceSets.{RefPicSet, names, all_members, with_marks}
use Rattle.hevc_walk_marks.specs.Marked.{has_reference, short_term_members, long_term_members}
use Rattle.hevc_walk_marks.proofs.Marks.{each_marked, exactly_marked, kinds_apart}
use Rattle.hevc_dpb.specs.Views.{stored_entries, buffer_of}
use Rattle.hevc_refs.specs.Sets.{plain_set}
use Rattle.hevc_refs.specs.Marking.{HasMembers}
use Rattle.hevc_refs.proofs.MarkingLaws.{plain_distinct}
use Rattle.hevc_refs.proofs.derive.derive_into.Goals as goal

pub returns-clause-derives : goal.returns-clause-derives
returns-clause-derives g c p first is_head has =
    let has_members =
    subst (λ (x : ℤ). HasMembers first c.args.header.now c.args.set.now x)
    (sym (to_z-of_z w32 c.args.max_pic_order_cnt_lsb c.ranges.max_pic_order_cnt_lsb)) has in
    let derived = c.derive.ensures.derives p first is_head has_members in
    let old = buffer_of c.args.dpb.now in
    record {
      derives = derived;
      members = record {
        named = λ n h. ap (has_reference n) derived.marks
            ∙ each_marked p first old n (sym (ap (λ (s : RefPicSet). names n (all_members s)) derived.set) ∙ h);
        exactly =
            subst (λ (b : Buffer). All
            (λ e. is_reference e.mark ≡ names e.number (all_members (plain_set c.derive.new.out))) b)
            (sym derived.marks)
            (subst (λ (s : RefPicSet). All (λ e. is_reference e.mark ≡ names e.number (all_members s))
            (with_marks p first old)) (sym derived.set)
            (exactly_marked p first old (plain_distinct (stored_entries c.args.dpb.now) c.args.dpb.now.distinct)));
        apart = λ n h. ap (λ (s : RefPicSet). names n (long_term_members s)) derived.set
            ∙ kinds_apart p first old n (sym (ap (λ (s : RefPicSet). names n (short_term_members s)) derived.set) ∙ h);
      };
    }
