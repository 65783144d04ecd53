use Rattle.hevc_queue.specs.declared.given.Given.TheVariants.{Begun}
use Rattle.hevc_queue.specs.Given.{begun_with}
use Rattle.hevc_queue.proofs.backend.QueueBackendStatelessH265DecoderBackend.begin_picture.Given as goal

-- what the call was given
abbrev pub ghost-and : goal.ghost-and
ghost-and a = let t = a._told.now in
    Begun (begun_with t.0 t.1.now t.2.now t.3.now t.4.now t.5.now t.6.now)
