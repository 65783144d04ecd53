use Rattle.std.proofs.Common.{[], sym, subst}
use Rattle.hevc_options.specs.Options.{options_of}
use Rattle.hevc_decoder.specs.Promise.{Decodes, told}
use Rattle.hevc_decoder.proofs.stream.judge_stream.Goals as goal

pub returns : goal.returns
returns g c =
    let logs = g.B.StatelessH265DecoderBackend.log in
    let handeds = g.B.StatelessH265DecoderBackend.handed in
    let framed = g.B.StatelessH265DecoderBackend.frames in
    let counts = g.B.StatelessH265DecoderBackend.counts in
    let is_faultless = g.B.StatelessH265DecoderBackend.is_faultless in
    let o = options_of c.args.options in
    let stream = c.args.stream.now in
    let out = c.judge_units-result.ensures o c.args.backend (c.begin_stream-decoder.ensures.stands stream) in
    record {
      decodes = (
        out.shown,
        subst (λ (b : g.row.B.Denot). Decodes o stream
            (told logs handeds counts is_faultless c.args.backend [])
            (told logs handeds counts is_faultless b out.shown) c.judge_units-result.result)
            (sym c.into_backend.ensures) out.decodes,
      );
    }
