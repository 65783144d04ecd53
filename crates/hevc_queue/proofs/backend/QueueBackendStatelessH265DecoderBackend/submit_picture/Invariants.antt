use Rattle.hevc_queue.specs.declared.given.Given.TheVariants.{Submission}
use Rattle.hevc_queue.proofs.backend.QueueBackendStatelessH265DecoderBackend.submit_picture.Given as goal

-- what the call was given
abbrev pub ghost-and : goal.ghost-and
ghost-and a = Submission a._told.now
