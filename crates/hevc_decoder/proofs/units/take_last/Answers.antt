use Rattle.std.proofs.Common.{[], sym, subst, append-nil}
use Rattle.std.proofs.lemmas.Result.{err_from_is_err_and}
use Rattle.hevc_spec.specs.Units.{units}
use Rattle.hevc_stream.specs.Options.{Options}
use Rattle.hevc_stateless.specs.Decoders.{set_for}
use Rattle.hevc_decoder.specs.Scenes.{scene}
use Rattle.hevc_decoder.specs.Runs.{Reached, EndsRun}
use Rattle.hevc_decoder.proofs.Nexts.{ended_here}
use Rattle.hevc_decoder.proofs.units.take_last.Goals as goal

pub returns-in_err-unit-clause-ends : goal.returns-in_err-unit-clause-ends
returns-in_err-unit-clause-ends g c begin all x =
    let before =
    scene g.B.StatelessH265DecoderBackend.log g.B.StatelessH265DecoderBackend.handed
    g.B.StatelessH265DecoderBackend.frames c.args.decoder.now c.args.shown.now.items in
    let p = err_from_is_err_and c.from_residual.result c.from_residual.ensures.1 in
    rw (p.1, p.2)
    (c.in_err-unit.ensures.takes begin all []
    (subst (λ us. Reached (set_for c.args.decoder.now) all c.args.first begin before us)
    (sym (append-nil (units c.args.piece.now))) x))

pub returns-clause-ends : goal.returns-clause-ends
returns-clause-ends g c begin all x =
    let logs = g.B.StatelessH265DecoderBackend.log in
    let handeds = g.B.StatelessH265DecoderBackend.handed in
    let framed = g.B.StatelessH265DecoderBackend.frames in
    let before = scene logs handeds framed c.args.decoder.now c.args.shown.now.items in
    let mid = scene logs handeds framed c.take_piece.new.decoder c.take_piece.new.shown.items in
    let there : Reached (set_for c.args.decoder.now) all c.in_ok-unit.unit begin mid [] =
    c.in_ok-unit.ensures.takes begin all []
    (subst (λ us. Reached (set_for c.args.decoder.now) all c.args.first begin before us)
    (sym (append-nil (units c.args.piece.now))) x) in
    let ended : EndsRun c.finish.result (set_for c.args.decoder.now) c.in_ok-unit.unit [] mid
    (scene logs handeds framed c.finish.new.decoder c.finish.new.shown.items) =
    subst (λ (o : Options). EndsRun c.finish.result o c.in_ok-unit.unit [] mid
    (scene logs handeds framed c.finish.new.decoder c.finish.new.shown.items)) c.take_piece.ensures.options
    (ended_here (set_for c.take_piece.new.decoder) c.in_ok-unit.unit c.finish.result mid
    (scene logs handeds framed c.finish.new.decoder c.finish.new.shown.items) c.finish.ensures.ends) in
    ended begin all there
