use Rattle.std.proofs.Common.{◌<◌, ◌^◌, length}
use Rattle.hevc_decoder_tests.proofs.decoder.calling.numbers_by_events.Given as goal

-- what is left of the stream
abbrev pub invariant-loop-taken : goal.invariant-loop-taken
invariant-loop-taken l = length l.rest < 2 ^ 60

abbrev pub decreases-loop-taken : goal.decreases-loop-taken
decreases-loop-taken l = length l.rest
