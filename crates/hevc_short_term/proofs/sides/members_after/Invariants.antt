use Rattle.std.proofs.Common.{◌≡◌, ◌≤◌, ◌++◌, pos, drop, length, filter}
use Rattle.std.specs.Prelude.{int_lt}
use Rattle.hevc_short_term.proofs.sides.members_after.Given as goal

abbrev pub invariant-loop-i : goal.invariant-loop-i
invariant-loop-i l = record {
  items : l.after ++ filter (λ m. int_lt (pos 0) m.delta_poc) (drop l.i l.members) ≡ filter
      (λ m. int_lt (pos 0) m.delta_poc) l.members;
  count : length l.after ≤ l.i;
}
