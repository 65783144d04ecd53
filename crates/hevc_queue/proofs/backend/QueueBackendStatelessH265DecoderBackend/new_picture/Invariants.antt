use Rattle.hevc_queue.specs.declared.given.Given.TheVariants.{Picture}
use Rattle.hevc_queue.proofs.backend.QueueBackendStatelessH265DecoderBackend.new_picture.Given as goal

-- what the call was given
abbrev pub ghost-and : goal.ghost-and
ghost-and a = Picture a._told.now.0 a._told.now.1.now a._told.now.2
