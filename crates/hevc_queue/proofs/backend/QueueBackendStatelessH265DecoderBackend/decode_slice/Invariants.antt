use Rattle.hevc_queue.specs.declared.given.Given.TheVariants.{Slice}
use Rattle.hevc_queue.specs.Given.{slice_with}
use Rattle.hevc_queue.proofs.backend.QueueBackendStatelessH265DecoderBackend.decode_slice.Given as goal

-- what the call was given
abbrev pub ghost-and : goal.ghost-and
ghost-and a = let t = a._told.now in
    Slice (slice_with t.0 t.1.now t.2.now t.3.now t.4.now t.5.now t.6.now)
