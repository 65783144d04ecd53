use Rattle.std.proofs.Common.{◌≤◌, ◌-◌, length}
use Rattle.hevc_tools_tests.proofs.tests.index.decoded.num_units.Given as goal

-- the search goes on within the bytes
abbrev pub invariant-loop-nalu : goal.invariant-loop-nalu
invariant-loop-nalu l = l.position ≤ length l.bytes

abbrev pub decreases-loop-nalu : goal.decreases-loop-nalu
decreases-loop-nalu l = length l.bytes - l.position
