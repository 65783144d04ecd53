use Rattle.hevc_options.specs.Options.{options_of}
use Rattle.hevc_decoder.proofs.Stepping.{stands_first}
use Rattle.hevc_decoder.proofs.steps.begin_stream.Goals as goal

pub returns-clause-stands : goal.returns-clause-stands
returns-clause-stands g c stream =
    stands_first g.B.StatelessH265DecoderBackend.log g.B.StatelessH265DecoderBackend.handed
    g.B.StatelessH265DecoderBackend.frames g.B.StatelessH265DecoderBackend.counts
    g.B.StatelessH265DecoderBackend.is_faultless
    (options_of c.args.options) stream c.args.backend c.new_with.result c.new_with.ensures.view
    c.new_with.ensures.kept c.new_with.ensures.options
