use Rattle.std.proofs.Common.{◌≡◌, drop}
use Rattle.std.specs.List.{list_all}
use Rattle.hevc_tables.specs.ShortTermTable.{deltas, is_i32}
use Rattle.hevc_short_term.proofs.sides.have_32_bits.Given as goal

abbrev pub invariant-loop-i : goal.invariant-loop-i
invariant-loop-i l = list_all is_i32 (deltas (drop l.i l.members)) ≡ list_all is_i32 (deltas l.members)
