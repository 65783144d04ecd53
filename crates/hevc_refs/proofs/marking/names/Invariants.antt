use Rattle.std.proofs.Common.{◌≡◌, drop}
use Rattle.hevc_walk.specs.ReferenceSets.{names}
use Rattle.hevc_refs.proofs.marking.names.Given as goal

abbrev pub invariant-loop-member : goal.invariant-loop-member
invariant-loop-member l = names l.number l.members ≡ names l.number (drop l.member-index l.members)
