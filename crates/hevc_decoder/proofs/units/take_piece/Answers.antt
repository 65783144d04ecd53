use Rattle.std.proofs.Common.{◌<◌, refl, ◌∙◌, arith}
use Rattle.std.proofs.lemmas.Result.{err_from_is_err_and}
use Rattle.hevc_spec.specs.Units.{kept_bytes, units_from}
use Rattle.hevc_stateless.specs.Decoders.{set_for}
use Rattle.hevc_decoder.specs.Scenes.{scene}
use Rattle.hevc_decoder.proofs.Nexts.{piece_ends, piece_more, piece_refused, with_options}
use Rattle.hevc_decoder.proofs.units.take_piece.Goals as goal

pub loop-nalu-init : goal.loop-nalu-init
loop-nalu-init g c = record {
  within = omega arith;
  few = omega arith;
  empty = c.requires.empty;
  counts = refl;
  faultless = λ h. h;
  options = refl;
  reached = λ begin all later x. x;
}

pub returns-in_err-_nalu-clause-takes : goal.returns-in_err-_nalu-clause-takes
returns-in_err-_nalu-clause-takes g c =
    let piece = c.args.piece.now in
    let old = scene g.B.StatelessH265DecoderBackend.log g.B.StatelessH265DecoderBackend.handed
    g.B.StatelessH265DecoderBackend.frames c.loop-nalu.decoder c.loop-nalu.shown.items in
    let new = scene g.B.StatelessH265DecoderBackend.log g.B.StatelessH265DecoderBackend.handed
    g.B.StatelessH265DecoderBackend.frames c.take_next.new.decoder c.take_next.new.shown.items in
    let p = err_from_is_err_and c.from_residual.result c.from_residual.ensures.1 in
    rw (p.1, p.2)
    (λ begin all later x. piece_refused (set_for c.args.decoder.now) c.loop-nalu.unit
    (units_from kept_bytes c.loop-nalu.position piece) (units_from kept_bytes c.take_next.new.position piece) old new _
    (with_options (set_for c.loop-nalu.decoder) (set_for c.args.decoder.now) c.loop-nalu.unit
    (units_from kept_bytes c.loop-nalu.position piece)
    (units_from kept_bytes c.take_next.new.position piece) old new _ c.loop-nalu.invariant.options
    c.in_err-_nalu.ensures.takes) begin all later (c.loop-nalu.invariant.reached begin all later x))

pub loop-nalu-preserved : goal.loop-nalu-preserved
loop-nalu-preserved g c =
    let piece = c.args.piece.now in
    let before = c.loop-nalu.invariant in
    let old = scene g.B.StatelessH265DecoderBackend.log g.B.StatelessH265DecoderBackend.handed
    g.B.StatelessH265DecoderBackend.frames c.loop-nalu.decoder c.loop-nalu.shown.items in
    let new = scene g.B.StatelessH265DecoderBackend.log g.B.StatelessH265DecoderBackend.handed
    g.B.StatelessH265DecoderBackend.frames c.take_next.new.decoder c.take_next.new.shown.items in
    let moves : c.loop-nalu.position < c.take_next.new.position = rw c.in-Some.is at c.in_ok-_nalu.ensures.moves in
    let few = before.few in
    record {
      within = c.in_ok-_nalu.ensures.within;
      few = omega (arith, few, moves);
      empty = c.in_ok-_nalu.ensures.empty;
      counts = c.in_ok-_nalu.ensures.blames.cause ∙ before.counts;
      faultless = λ h. (c.in_ok-_nalu.ensures.blames.faultless (before.faultless h)).0;
      options = c.in_ok-_nalu.ensures.options ∙ before.options;
      reached = λ begin all later x.
          piece_more (set_for c.args.decoder.now) c.loop-nalu.unit
          (units_from kept_bytes c.loop-nalu.position piece)
          (units_from kept_bytes c.take_next.new.position piece) old new c.in-Some._nalu
          (with_options (set_for c.loop-nalu.decoder) (set_for c.args.decoder.now) c.loop-nalu.unit
          (units_from kept_bytes c.loop-nalu.position piece)
          (units_from kept_bytes c.take_next.new.position piece) old new _ before.options
          (rw c.in-Some.is at c.in_ok-_nalu.ensures.takes)) begin all later (before.reached begin all later x);
    }

pub returns-clause-takes : goal.returns-clause-takes
returns-clause-takes g c begin all later x =
    let piece = c.args.piece.now in
    let before = c.loop-nalu.invariant in
    let old = scene g.B.StatelessH265DecoderBackend.log g.B.StatelessH265DecoderBackend.handed
    g.B.StatelessH265DecoderBackend.frames c.loop-nalu.decoder c.loop-nalu.shown.items in
    let new = scene g.B.StatelessH265DecoderBackend.log g.B.StatelessH265DecoderBackend.handed
    g.B.StatelessH265DecoderBackend.frames c.take_next.new.decoder c.take_next.new.shown.items in
    piece_ends (set_for c.args.decoder.now) c.loop-nalu.unit
    (units_from kept_bytes c.loop-nalu.position piece) (units_from kept_bytes c.take_next.new.position piece) old new
    (with_options (set_for c.loop-nalu.decoder) (set_for c.args.decoder.now) c.loop-nalu.unit
    (units_from kept_bytes c.loop-nalu.position piece)
    (units_from kept_bytes c.take_next.new.position piece) old new _ before.options
    (rw c.in_default.is at c.in_ok-_nalu.ensures.takes)) begin all later (before.reached begin all later x)
