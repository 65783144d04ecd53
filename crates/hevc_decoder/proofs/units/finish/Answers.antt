use Rattle.hevc_stateless.specs.Decoders.{set_for}
use Rattle.hevc_decoder.specs.Scenes.{scene}
use Rattle.hevc_decoder.proofs.Nexts.{ends_here, refused_end}
use Rattle.hevc_decoder.proofs.units.finish.Goals as goal

pub returns-in-Ok-clause-ends : goal.returns-in-Ok-clause-ends
returns-in-Ok-clause-ends g c =
    let logs = g.B.StatelessH265DecoderBackend.log in
    let handeds = g.B.StatelessH265DecoderBackend.handed in
    let framed = g.B.StatelessH265DecoderBackend.frames in
    ends_here (set_for c.args.decoder.now) c.args.unit c.num_pictures-pictures.result c.in-Ok.field-0
    (scene logs handeds framed c.args.decoder.now c.args.shown.now.items)
    (scene logs handeds framed c.close.new.decoder c.close.new.shown.items) c.num_pictures-pictures.ensures
    c.in-Ok.ensures.closes

pub returns-in-Err-clause-ends : goal.returns-in-Err-clause-ends
returns-in-Err-clause-ends g c =
    let logs = g.B.StatelessH265DecoderBackend.log in
    let handeds = g.B.StatelessH265DecoderBackend.handed in
    let framed = g.B.StatelessH265DecoderBackend.frames in
    refused_end (set_for c.args.decoder.now) c.args.unit c.in-Err.error
    (scene logs handeds framed c.args.decoder.now c.args.shown.now.items)
    (scene logs handeds framed c.close.new.decoder c.close.new.shown.items) c.in-Err.ensures.closes
