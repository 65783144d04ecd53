use Rattle.std.proofs.Common.{◌≡◌, length, ◌≤◌, take}
use Rattle.hevc_spec.specs.Units.{without_trailing_zeros}
use Rattle.hevc_bits.proofs.start_code.trim_trailing_zeros.Given as goal

abbrev pub invariant-loop-len : goal.invariant-loop-len
invariant-loop-len l =
    (l.len ≤ length l.bytes) × (without_trailing_zeros (take l.len l.bytes) ≡ without_trailing_zeros l.bytes)

abbrev pub decreases-loop-len : goal.decreases-loop-len
decreases-loop-len l = l.len
