use Rattle.std.proofs.Common.{◌∙◌, sym}
use Rattle.hevc_bits.specs.FoundUnit.{bytes_of}
use Rattle.hevc_stateless.specs.Decoders.{set_for, seen_by}
use Rattle.hevc_stateless.proofs.Calling.{steps_in, told_first}
use Rattle.hevc_stateless.proofs.decoder.StatelessDecoder.decode_unit.Goals as goal

pub returns-then-awaiting_format-clause-takes : goal.returns-then-awaiting_format-clause-takes
returns-then-awaiting_format-clause-takes g c =
    told_first c.args.timestamp (set_for c.args.self.now)
    (seen_by g.B.StatelessH265DecoderBackend.log g.B.StatelessH265DecoderBackend.handed
    g.B.StatelessH265DecoderBackend.frames c.args.self.now) c.args.nalu.now.header
    (bytes_of c.args.nalu.now) (sym c.awaiting_format.ensures ∙ c.if-awaiting_format.true)

pub returns-clause-takes : goal.returns-clause-takes
returns-clause-takes g c =
    steps_in c.args.timestamp (set_for c.args.self.now)
    (seen_by g.B.StatelessH265DecoderBackend.log g.B.StatelessH265DecoderBackend.handed
    g.B.StatelessH265DecoderBackend.frames c.args.self.now)
    (seen_by g.B.StatelessH265DecoderBackend.log g.B.StatelessH265DecoderBackend.handed
    g.B.StatelessH265DecoderBackend.frames c.take_unit.new.self) c.take_unit.result c.args.nalu.now.header
    (bytes_of c.args.nalu.now) (sym c.awaiting_format.ensures ∙ c.if-awaiting_format.false)
    c.take_unit.ensures.step
