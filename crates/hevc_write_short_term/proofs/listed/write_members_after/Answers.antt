use Rattle.std.proofs.Common.{arith, rules, get_or, pos, false, subst, w64, SFits}
use Rattle.std.specs.Prelude.{ℤ}
use Rattle.std.proofs.lemmas.Int.{to_z-of_z}
use Rattle.hevc_tables.specs.declared.short_term_member.ShortTermMember.{ShortTermMember}
use Rattle.hevc_tables.specs.ShortTermTable.{member_after}
use Rattle.hevc_write_elements.specs.Filling.{WritesTable}
use Rattle.hevc_write_elements.proofs.Loops.{no_turns, one_more_turn}
use Rattle.hevc_write_short_term.proofs.Tables.{after_written, listed_after_written}
use Rattle.hevc_write_short_term.proofs.listed.write_members_after.Goals as goal

pub loop-i-init : goal.loop-i-init
loop-i-init c = no_turns _ _ _

pub loop-i-preserved : goal.loop-i-preserved
loop-i-preserved c =
    let none : ShortTermMember = record { delta_poc = pos 0; used_by_curr_pic = false } in
    let fits : SFits w64 c.last_delta.result = search rules in
    one_more_turn _ _ c.loop-i.invariant (after_written c.args.members.now c.loop-i.i none c.loop-i-test.true
    (subst (λ (last : ℤ). WritesTable (member_after last)
    (get_or c.args.members.now c.loop-i.i none) c.loop-i.w c.write_member_after.new.w) c.last_delta.ensures
    (simp to_z-of_z at c.in_ok-write_member_after.ensures)))

pub returns : goal.returns
returns c = λ count. listed_after_written _ c.loop-i.i count c.loop-i.invariant (omega arith)
