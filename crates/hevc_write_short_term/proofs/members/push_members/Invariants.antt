use Rattle.std.proofs.Common.{◌≡◌, ◌+◌, ◌++◌, drop, length}
use Rattle.hevc_write_short_term.specs.Members.{members_from}
use Rattle.hevc_write_short_term.proofs.members.push_members.Given as goal

abbrev pub invariant-loop-i : goal.invariant-loop-i
invariant-loop-i l = record {
  items : l.members.items ++ members_from (drop l.i l.differences) (drop l.i l.used) ≡ l.fn.members.items
      ++ members_from l.differences l.used;
  count : length l.members.items ≡ length l.fn.members.items + l.i;
}
