use Rattle.std.proofs.Common.{◌≡◌, ◌-◌, ◌≤◌}
use Rattle.hevc_spec.specs.Payload.{bits, IsAhead, IsReached}
use Rattle.hevc_spec.specs.Bits.{golomb_at}
use Rattle.hevc_spec.proofs.BitSteps.{golomb_after}
use Rattle.hevc_bits.proofs.reader.NaluReader.pass_zeros.Given as goal

abbrev pub invariant-loop-zeros : goal.invariant-loop-zeros
invariant-loop-zeros l = record {
  few : l.zeros ≤ 31;
  ahead : IsAhead l.self l.ahead;
  reached : IsReached l.self l.ahead;
  same : golomb_after l.zeros (bits l.ahead) ≡ golomb_at (bits l.self);
}

abbrev pub decreases-loop-zeros : goal.decreases-loop-zeros
decreases-loop-zeros l = 32 - l.zeros
