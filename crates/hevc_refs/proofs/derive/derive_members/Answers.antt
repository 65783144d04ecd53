use Rattle.std.proofs.Common.{◌≡◌, pos, List, ◌++◌, not, to_z, of_z, w32, map, filter, sym, ap, ◌∙◌, arith}
use Rattle.std.proofs.lemmas.Int.{ints, to_z-of_z}
use Rattle.hevc_walk.specs.Meanings.{LongTermMember}
use Rattle.hevc_walk_inputs.specs.Headers.{short_term_set_of}
use Rattle.hevc_set_parts.specs.ShortTermRefPicSet.{plain_short_term_ref_pic_set}
use Rattle.hevc_walk.specs.ReferenceSets.{short_term_set, long_term_entry, is_curr_short_term}
use Rattle.hevc_walk.specs.ReferenceSets.{is_curr_long_term, with_long_term, marked_if, all_members}
use Rattle.hevc_dpb.specs.Views.{buffer_of}
use Rattle.hevc_refs.specs.Sets.{plain_set}
use Rattle.hevc_refs.specs.declared.ref_pic_set.RefPicSet as code
use Rattle.hevc_refs.proofs.DeriveLaws.{marked_long_term, lists_are, found_by}
use Rattle.hevc_refs.proofs.derive.derive_members.Goals as goal

pub returns-clause-finds : goal.returns-clause-finds
returns-clause-finds g c p first is_head has =
    let es = buffer_of c.args.dpb.now in
    let f = long_term_entry p first es in
    let count : to_z w32 (of_z w32 c.args.pic.now.pic_order_cnt_val) ≡ p.order_count =
    omega (arith, ints) ∙ is_head.order_count in
    let m : to_z w32 (of_z w32 c.args.max_pic_order_cnt_lsb) ≡ pos first.max_pic_order_cnt_lsb =
    to_z-of_z w32 c.args.max_pic_order_cnt_lsb c.ranges.max_pic_order_cnt_lsb ∙ has.max_pic_order_cnt_lsb in
    let curr = c.find_long_term.ensures.curr p first count m
    ∙ ap (λ (l : List LongTermMember). map f (filter is_curr_long_term l)) (sym has.long_term) in
    let foll = c.find_long_term.ensures.foll p first count m
    ∙ ap (λ (l : List LongTermMember). map f (filter (λ x. not (is_curr_long_term x)) l)) (sym has.long_term) in
    let marked = c.mark_long_term.ensures.buffer
    ∙ marked_long_term p first es _ _ (c.lt_curr.ensures.value ∙ curr) (c.lt_foll.ensures.value ∙ foll) in
    let found = c.find_short_term.ensures in
    record {
      lists =
          lists_are p first (short_term_set first) es (with_long_term p first es) _ _ _ _ _
          (found_by p _ _ _ (λ s. filter is_curr_short_term s.negative_pics)
          (short_term_set_of (plain_short_term_ref_pic_set c.args.set.now)) (short_term_set first)
          (found.before p count) marked has.short_term)
          (found_by p _ _ _ (λ s. filter is_curr_short_term s.positive_pics)
          (short_term_set_of (plain_short_term_ref_pic_set c.args.set.now)) (short_term_set first)
          (found.after p count) marked has.short_term)
          (found_by p _ _ _
          (λ s. filter (λ x. not (is_curr_short_term x)) (s.negative_pics ++ s.positive_pics))
          (short_term_set_of (plain_short_term_ref_pic_set c.args.set.now)) (short_term_set first)
          (found.foll p count) marked has.short_term)
          (ap (λ (x : code.RefPicSet). x.lt_curr.items) c.find_short_term.ensures.others ∙ curr)
          (ap (λ (x : code.RefPicSet). x.lt_foll.items) c.find_short_term.ensures.others ∙ foll);
      marks = c.unmark_others.ensures.buffer
          ∙ ap (map (marked_if (all_members (plain_set c.find_short_term.new.out)))) marked;
    }
