use Rattle.hevc_decoder.proofs.Stepping.{decodes_end}
use Rattle.hevc_decoder.proofs.steps.end_stream.Goals as goal

pub returns : goal.returns
returns g c = record {
  empty = c.finish.ensures.empty;
  leaves = c.finish.ensures.leaves;
  options = c.finish.ensures.options;
  decodes =
      decodes_end g.B.StatelessH265DecoderBackend.log g.B.StatelessH265DecoderBackend.handed
      g.B.StatelessH265DecoderBackend.frames g.B.StatelessH265DecoderBackend.counts
      g.B.StatelessH265DecoderBackend.is_faultless
      c.args.unit c.args.decoder.now c.finish.new.decoder c.finish.result c.args.shown.now.items
      c.finish.new.shown.items c.finish.ensures.blames c.finish.ensures.ends;
}
