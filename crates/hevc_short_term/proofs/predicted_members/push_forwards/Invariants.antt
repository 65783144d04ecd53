use Rattle.std.proofs.Common.{◌≡◌, ◌+◌, ◌≤◌, ◌++◌, drop, length}
use Rattle.hevc_tables.specs.ShortTermTable.{shifted}
use Rattle.hevc_short_term.proofs.predicted_members.push_forwards.Given as goal

abbrev pub invariant-loop-i : goal.invariant-loop-i
invariant-loop-i l = record {
  items : l.members.items ++ shifted l.fn.shift (drop l.i l.differences) (drop l.i l.flags)
      ≡ l.fn.members.items ++ shifted l.fn.shift l.differences l.flags;
  count : length l.members.items ≤ length l.fn.members.items + l.i;
}
