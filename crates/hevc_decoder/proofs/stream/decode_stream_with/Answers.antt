use Rattle.hevc_stateless_laws.specs.Segments.{read_units}
use Rattle.std.proofs.Common.{[], ap}
use Rattle.hevc_stream.specs.Stream.{meanings}
use Rattle.hevc_options.specs.Options.{options_of}
use Rattle.hevc_stateless.specs.Decoders.{view_of}
use Rattle.hevc_stateless.specs.Views.{View}
use Rattle.hevc_decoder.specs.Promise.{told}
use Rattle.hevc_decoder.specs.Runs.{Ended}
use Rattle.hevc_decoder.proofs.Walking.{whole_run}
use Rattle.hevc_decoder.proofs.Promises.{decodes_of}
use Rattle.hevc_decoder.proofs.stream.decode_stream_with.Given as given
use Rattle.hevc_decoder.proofs.stream.decode_stream_with.Goals as goal

-- the run from the decoder that was made
run : (g : given.Over) (c : goal.After-into_backend g)
    → Ended c.take_units-result.result (meanings (options_of c.args.options) c.args.stream.now)
    (read_units (options_of c.args.options) c.args.stream.now) (record {
      log = g.B.StatelessH265DecoderBackend.log c.args.backend;
      handed = g.B.StatelessH265DecoderBackend.handed c.args.backend;
      shown = c.args.shown.now.items;
      tickets = [];
    })
    (record {
      log = g.B.StatelessH265DecoderBackend.log c.into_backend.result;
      handed = g.B.StatelessH265DecoderBackend.handed c.into_backend.result;
      shown = c.take_units-result.new.shown.items;
      tickets = (view_of c.take_units-result.new.decoder).tickets;
    })
run g c = whole_run g.B.StatelessH265DecoderBackend.log g.B.StatelessH265DecoderBackend.handed
    g.B.StatelessH265DecoderBackend.frames c.new_with-decoder.result c.take_units-result.new.decoder
    c.args.shown.now.items c.take_units-result.new.shown.items c.args.backend c.into_backend.result
    (options_of c.args.options) c.args.stream.now c.take_units-result.result c.new_with-decoder.ensures.view
    c.new_with-decoder.ensures.options c.into_backend.ensures c.take_units-result.ensures.ended

pub returns : goal.returns
returns g c =
    let e = c.take_units-result.ensures in
    let from = ap (λ (v : View g.row.B.Denot g.row.B-Handle.Denot). v.backend) c.new_with-decoder.ensures.view in
    let before =
    told g.B.StatelessH265DecoderBackend.log g.B.StatelessH265DecoderBackend.handed
    g.B.StatelessH265DecoderBackend.counts g.B.StatelessH265DecoderBackend.is_faultless c.args.backend
    c.args.shown.now.items in
    let now = told g.B.StatelessH265DecoderBackend.log g.B.StatelessH265DecoderBackend.handed
    g.B.StatelessH265DecoderBackend.counts g.B.StatelessH265DecoderBackend.is_faultless
    c.into_backend.result c.take_units-result.new.shown.items in
    record {
      decodes =
          decodes_of before now c.take_units-result.result
          (rw (from, ← c.into_backend.ensures) at e.blames.cause)
          (rw (from, ← c.into_backend.ensures) at e.blames.faultless)
          (options_of c.args.options) c.args.stream.now _ (run g c) e.unit;
    }
