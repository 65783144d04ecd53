use Rattle.std.proofs.Common.{subst}
use Rattle.hevc_stream.specs.Options.{Options}
use Rattle.hevc_decoder.specs.Promise.{Decodes, told}
use Rattle.hevc_decoder.proofs.stream.decode_stream.Goals as goal

-- the options of `Options::new` are the default ones
pub returns : goal.returns
returns g c =
    let before =
    told g.B.StatelessH265DecoderBackend.log g.B.StatelessH265DecoderBackend.handed
    g.B.StatelessH265DecoderBackend.counts g.B.StatelessH265DecoderBackend.is_faultless c.args.backend
    c.args.shown.now.items in
    let now = told g.B.StatelessH265DecoderBackend.log g.B.StatelessH265DecoderBackend.handed
    g.B.StatelessH265DecoderBackend.counts g.B.StatelessH265DecoderBackend.is_faultless
    c.decode_stream_with.result.backend c.decode_stream_with.new.shown.items in
    record {
      decodes = subst
          (λ (o : Options). Decodes o c.args.stream.now before now c.decode_stream_with.result.result)
          c.new.ensures c.decode_stream_with.ensures.decodes;
    }
