use Rattle.std.proofs.Common.{length}
use Rattle.hevc_stateless.specs.Decoders.{view_of}
use Rattle.hevc_decoder_tests.proofs.decoder.calling.take_events.Given as goal

abbrev pub decreases-loop-frame : goal.decreases-loop-frame
decreases-loop-frame g l = length (view_of l.decoder).queue
