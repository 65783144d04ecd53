use Rattle.std.proofs.Common.{◌≡◌, ◌+◌, ◌≤◌, pos, drop, length, reverse, filter}
use Rattle.std.specs.Prelude.{int_lt}
use Rattle.hevc_short_term.proofs.sides.members_before.Given as goal

abbrev pub invariant-loop-i : goal.invariant-loop-i
invariant-loop-i l = record {
  items : l.before ≡ reverse (filter (λ m. int_lt m.delta_poc (pos 0)) (drop l.i l.members));
  count : length l.before + l.i ≤ length l.members;
}
