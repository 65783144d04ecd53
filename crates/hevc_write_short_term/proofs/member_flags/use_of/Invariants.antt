use Rattle.std.proofs.Common.{◌≡◌, drop}
use Rattle.hevc_write_short_term.specs.Members.{use_of}
use Rattle.hevc_write_short_term.proofs.member_flags.use_of.Given as goal

abbrev pub invariant-loop-i : goal.invariant-loop-i
invariant-loop-i l = use_of l.fn.delta_poc (drop l.i l.members) ≡ use_of l.fn.delta_poc l.members
