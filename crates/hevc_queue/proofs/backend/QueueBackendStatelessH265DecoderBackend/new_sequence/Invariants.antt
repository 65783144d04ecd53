use Rattle.hevc_queue.specs.declared.given.Given.TheVariants.{Sequence}
use Rattle.hevc_queue.proofs.backend.QueueBackendStatelessH265DecoderBackend.new_sequence.Given as goal

-- what the call was given
abbrev pub ghost-and : goal.ghost-and
ghost-and a = Sequence a._told.now
