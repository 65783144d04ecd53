use Rattle.std.proofs.Common.{length, ◌-◌, ◌≤◌}
use Rattle.hevc_bits.specs.StartCode.{NoneStands}
use Rattle.hevc_bits.proofs.start_code.find_in_last.Given as goal

abbrev pub invariant-loop-at : goal.invariant-loop-at
invariant-loop-at l = (l.from ≤ l.at) × (l.at ≤ length l.stream) × NoneStands l.stream l.from l.at

abbrev pub decreases-loop-at : goal.decreases-loop-at
decreases-loop-at l = length l.stream - l.at
