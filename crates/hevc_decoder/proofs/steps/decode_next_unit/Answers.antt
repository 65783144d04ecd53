use Rattle.hevc_spec.specs.Units.{kept_bytes, units_from}
use Rattle.hevc_decoder.proofs.Stepping.{decodes_next}
use Rattle.hevc_decoder.proofs.steps.decode_next_unit.Goals as goal

pub returns-clause-decodes : goal.returns-clause-decodes
returns-clause-decodes g c =
    let stream = c.args.stream.now in
    decodes_next g.B.StatelessH265DecoderBackend.log g.B.StatelessH265DecoderBackend.handed
    g.B.StatelessH265DecoderBackend.frames g.B.StatelessH265DecoderBackend.counts
    g.B.StatelessH265DecoderBackend.is_faultless
    stream c.args.unit (units_from kept_bytes c.args.position.now stream)
    (units_from kept_bytes c.take_next.new.position stream) c.args.decoder.now c.take_next.new.decoder
    c.take_next.ensures.options
    c.take_next.result c.args.shown.now.items c.take_next.new.shown.items c.take_next.ensures.blames
    c.take_next.ensures.takes

pub returns-clause-position : goal.returns-clause-position
returns-clause-position g c = record {
  next = c.take_next.ensures.next;
  moves = c.take_next.ensures.moves;
  stays = c.take_next.ensures.stays;
  within = c.take_next.ensures.within;
}
