use Rattle.std.proofs.Common.{◌≡◌, ◌++◌, drop}
use Rattle.hevc_write_short_term.specs.Members.{chosen_flags, flag_bits}
use Rattle.hevc_write_short_term.proofs.member_flags.write_flags_for.Given as goal

abbrev pub invariant-loop-i : goal.invariant-loop-i
invariant-loop-i l = l.w ++ flag_bits (chosen_flags l.fn.shift (drop l.i l.differences) l.members) ≡ l.fn.w
    ++ flag_bits (chosen_flags l.fn.shift l.differences l.members)
