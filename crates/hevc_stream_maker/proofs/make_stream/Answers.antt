use Rattle.hevc_stream_maker.proofs.Streams.{more_pictures}
use Rattle.hevc_stream_maker.proofs.make_stream.Goals as goal

pub loop-number-preserved : goal.loop-number-preserved
loop-number-preserved c = more_pictures _ _ c.loop-number.number c.loop-number.invariant c.in_ok-append_picture.ensures
