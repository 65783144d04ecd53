use Rattle.hevc_tables.specs.ShortTermTable.{next_member_after}
use Rattle.hevc_write_elements.specs.Filling.{WritesTurns, are_first}
use Rattle.hevc_write_short_term.proofs.listed.write_members_after.Given as goal

abbrev pub invariant-loop-i : goal.invariant-loop-i
invariant-loop-i l = WritesTurns next_member_after (are_first l.members) l.i l.fn.w l.w
