use Rattle.std.proofs.Common.{[], ◌<◌, arith}
use Rattle.std.proofs.lemmas.Result.{err_from_is_err_and}
use Rattle.hevc_spec.specs.Units.{kept_bytes, units_from}
use Rattle.hevc_decoder.proofs.Stepping.{along_end, along_ended, along_more, along_refused}
use Rattle.hevc_decoder.proofs.stream.judge_units.Goals as goal

pub loop-shown-init : goal.loop-shown-init
loop-shown-init g c = record {
  within = omega arith;
  few = omega arith;
  empty = c.requires.empty;
  along = λ o backend there. record { gone = []; stands = there };
}

pub returns-in_err-_nalu : goal.returns-in_err-_nalu
returns-in_err-_nalu g c o backend there =
    let stream = c.args.stream.now in
    let p = err_from_is_err_and c.from_residual.result c.from_residual.ensures.1 in
    rw (p.1, p.2)
    (along_refused g.B.StatelessH265DecoderBackend.log g.B.StatelessH265DecoderBackend.handed
    g.B.StatelessH265DecoderBackend.frames g.B.StatelessH265DecoderBackend.counts
    g.B.StatelessH265DecoderBackend.is_faultless
    o stream c.loop-shown.unit (units_from kept_bytes c.loop-shown.position stream)
    (units_from kept_bytes c.decode_next_unit.new.position stream) backend c.loop-shown.decoder
    c.decode_next_unit.new.decoder
    c.loop-shown.shown.items c.decode_next_unit.new.shown.items
    (c.loop-shown.invariant.along o backend there) _ c.in_err-_nalu.ensures.decodes)

pub loop-shown-preserved : goal.loop-shown-preserved
loop-shown-preserved g c =
    let stream = c.args.stream.now in
    let moves : c.loop-shown.position < c.decode_next_unit.new.position =
    rw c.in-Some.is at c.in_ok-_nalu.ensures.position.moves in
    let few = c.loop-shown.invariant.few in
    record {
      within = c.in_ok-_nalu.ensures.position.within;
      few = omega (arith, few, moves);
      empty = c.in_ok-_nalu.ensures.empty;
      along = λ o backend there.
          along_more g.B.StatelessH265DecoderBackend.log g.B.StatelessH265DecoderBackend.handed
          g.B.StatelessH265DecoderBackend.frames g.B.StatelessH265DecoderBackend.counts
          g.B.StatelessH265DecoderBackend.is_faultless
          o stream c.loop-shown.unit (units_from kept_bytes c.loop-shown.position stream)
          (units_from kept_bytes c.decode_next_unit.new.position stream) backend c.loop-shown.decoder
          c.decode_next_unit.new.decoder
          c.loop-shown.shown.items c.decode_next_unit.new.shown.items
          (c.loop-shown.invariant.along o backend there) c.in-Some._nalu
          (rw c.in-Some.is at c.in_ok-_nalu.ensures.decodes);
    }

pub returns : goal.returns
returns g c o backend there =
    let stream = c.args.stream.now in
    along_ended g.B.StatelessH265DecoderBackend.log g.B.StatelessH265DecoderBackend.handed
    g.B.StatelessH265DecoderBackend.frames g.B.StatelessH265DecoderBackend.counts
    g.B.StatelessH265DecoderBackend.is_faultless
    o stream c.loop-shown.unit backend c.decode_next_unit.new.decoder c.end_stream.new.decoder
    c.decode_next_unit.new.shown.items c.end_stream.new.shown.items c.end_stream.result
    (along_end g.B.StatelessH265DecoderBackend.log g.B.StatelessH265DecoderBackend.handed
    g.B.StatelessH265DecoderBackend.frames g.B.StatelessH265DecoderBackend.counts
    g.B.StatelessH265DecoderBackend.is_faultless
    o stream c.loop-shown.unit (units_from kept_bytes c.loop-shown.position stream)
    (units_from kept_bytes c.decode_next_unit.new.position stream) backend c.loop-shown.decoder
    c.decode_next_unit.new.decoder
    c.loop-shown.shown.items c.decode_next_unit.new.shown.items
    (c.loop-shown.invariant.along o backend there) (rw c.in_default.is at c.in_ok-_nalu.ensures.decodes))
    c.end_stream.ensures.decodes
