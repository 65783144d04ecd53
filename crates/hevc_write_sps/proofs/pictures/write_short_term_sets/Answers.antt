use Rattle.std.proofs.Common.{◌≡◌, ℕ, List, get_or, length, take, map, sym, ap, subst, ◌∙◌, arith}
use Rattle.std.proofs.lemmas.List.{length-map, get_or-map, take-map}
use Rattle.hevc_records.specs.ShortTermRefPicSet.{PlainShortTermRefPicSet, default_short_term_ref_pic_set}
use Rattle.hevc_tables.specs.ShortTermTable.{short_term_ref_pic_set}
use Rattle.hevc_set_parts.specs.ShortTermRefPicSet.{plain_short_term_ref_pic_set}
use Rattle.hevc_write_elements.specs.Filling.{WritesTable}
use Rattle.hevc_write_elements.proofs.Loops.{no_turns, one_more_turn}
use Rattle.hevc_write_sps.proofs.SpsKeeps.{set_written, sets_written}
use Rattle.hevc_write_sps.proofs.pictures.write_short_term_sets.Goals as goal

pub loop-i-init : goal.loop-i-init
loop-i-init c = λ most. no_turns _ _ _

pub loop-i-preserved : goal.loop-i-preserved
loop-i-preserved c = λ most.
    let sets = c.as_slice-sets.result.now in
    let i = c.loop-i.i in
    let here : get_or sets i c.index-sets-i.result ≡ c.index-sets-i.result = sym c.index-sets-i.is in
    one_more_turn _ _ (c.loop-i.invariant most)
    (set_written _ most (map plain_short_term_ref_pic_set sets) i default_short_term_ref_pic_set
    (rw (length-map sets plain_short_term_ref_pic_set) (omega arith))
    (subst (λ (before : List PlainShortTermRefPicSet). WritesTable
    (short_term_ref_pic_set before c.args.x.now.num_short_term_ref_pic_sets most i)
    (get_or (map plain_short_term_ref_pic_set sets) i default_short_term_ref_pic_set) c.loop-i.w
    c.write_short_term_ref_pic_set.new.w) (sym (take-map plain_short_term_ref_pic_set i sets))
    (subst (λ (set : PlainShortTermRefPicSet). WritesTable
    (short_term_ref_pic_set
    (map plain_short_term_ref_pic_set (take i sets)) c.args.x.now.num_short_term_ref_pic_sets most i) set
    c.loop-i.w c.write_short_term_ref_pic_set.new.w)
    (sym (get_or-map plain_short_term_ref_pic_set sets i c.index-sets-i.result
    default_short_term_ref_pic_set c.loop-i-test.true ∙ ap plain_short_term_ref_pic_set here))
    (c.in_ok-write_short_term_ref_pic_set.ensures.rows most))))

pub returns : goal.returns
returns c = λ most. rw (← c.as_slice-sets.ensures)
    (sets_written _ most _ c.loop-i.i (c.loop-i.invariant most)
    (rw (length-map c.as_slice-sets.result.now plain_short_term_ref_pic_set) (omega arith)))
