use Rattle.hevc_spec.specs.Units.{units}
use Rattle.hevc_stateless.specs.Decoders.{view_of, set_for}
use Rattle.hevc_decoder.specs.Scenes.{scene}
use Rattle.hevc_decoder.proofs.Walking.{begins}
use Rattle.hevc_decoder.proofs.units.take_units.Goals as goal

pub returns-clause-ended : goal.returns-clause-ended
returns-clause-ended g c =
    let before =
    scene g.B.StatelessH265DecoderBackend.log g.B.StatelessH265DecoderBackend.handed
    g.B.StatelessH265DecoderBackend.frames c.args.decoder.now c.args.shown.now.items in
    (c.take_last.ensures.ends before (units c.args.stream.now)
    (begins (set_for c.args.decoder.now) (units c.args.stream.now) before
    (view_of c.args.decoder.now).backend c.requires.beginning c.requires.nothing)).0

pub returns-clause-unit : goal.returns-clause-unit
returns-clause-unit g c =
    let before =
    scene g.B.StatelessH265DecoderBackend.log g.B.StatelessH265DecoderBackend.handed
    g.B.StatelessH265DecoderBackend.frames c.args.decoder.now c.args.shown.now.items in
    (c.take_last.ensures.ends before (units c.args.stream.now)
    (begins (set_for c.args.decoder.now) (units c.args.stream.now) before
    (view_of c.args.decoder.now).backend c.requires.beginning c.requires.nothing)).1
