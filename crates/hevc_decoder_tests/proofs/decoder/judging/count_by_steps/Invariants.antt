use Rattle.std.proofs.Common.{◌≡◌, ◌-◌, ◌≤◌, [], length}
use Rattle.hevc_stateless.specs.Decoders.{view_of}
use Rattle.hevc_decoder_tests.proofs.decoder.judging.count_by_steps.Given as goal

-- so many units were taken, and the rest of the stream comes from the position on
abbrev pub invariant-loop-shown : goal.invariant-loop-shown
invariant-loop-shown l = record {
  within : l.position ≤ length l.stream;
  few : l.units ≤ l.position;
  empty : (view_of l.decoder).queue ≡ [];
}

abbrev pub decreases-loop-shown : goal.decreases-loop-shown
decreases-loop-shown l = length l.stream - l.position
