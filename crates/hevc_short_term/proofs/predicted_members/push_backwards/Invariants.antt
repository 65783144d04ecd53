use Rattle.std.proofs.Common.{◌≡◌, ◌+◌, ◌≤◌, ◌++◌, drop, length, reverse}
use Rattle.hevc_tables.specs.ShortTermTable.{shifted}
use Rattle.hevc_short_term.proofs.predicted_members.push_backwards.Given as goal

abbrev pub invariant-loop-i : goal.invariant-loop-i
invariant-loop-i l = record {
  items : l.members.items ≡ l.fn.members.items
      ++ reverse (shifted l.fn.shift (drop l.i l.differences) (drop l.i l.flags));
  count : length l.members.items + l.i ≤ length l.fn.members.items + length l.differences;
}
