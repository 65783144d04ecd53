use Rattle.std.proofs.Common.{◌≡◌, ℕ, List, ◌++◌, sym, ◌∙◌, ap, subst, arith, Result, Err, IsErrOf}
use Rattle.std.proofs.lemmas.List.{length-append}
use Rattle.std.proofs.lemmas.Result.{err_from_is_err_and}
use Rattle.std.proofs.KnownBytes.{Consumes-trans}
use Rattle.hevc_spec.specs.Units.{units}
use Rattle.hevc_io.specs.declared.input.InputError.{InputError}
use Rattle.hevc_io.specs.declared.input.InputError.TheVariants.{TooLong}
use Rattle.hevc_stream.specs.Options.{Options}
use Rattle.hevc_stateless.specs.Decoders.{set_for}
use Rattle.hevc_decoder.specs.declared.decoded.Refused.{Refused}
use Rattle.hevc_decoder.specs.Scenes.{scene, trail_of}
use Rattle.hevc_decoder.specs.Runs.{EndsRun}
use Rattle.hevc_decoder.specs.Sources.{Drained, FedTo}
use Rattle.hevc_decoder.proofs.Feeding.{source_whole, source_stopped, stopped_front}
use Rattle.hevc_decoder.proofs.feed.take_source.Goals as goal

pub returns-in-Ok-clause-drained : goal.returns-in-Ok-clause-drained
returns-in-Ok-clause-drained g c =
    let logs = g.B.StatelessH265DecoderBackend.log in
    let handeds = g.B.StatelessH265DecoderBackend.handed in
    let framed = g.B.StatelessH265DecoderBackend.frames in
    let o = set_for c.args.decoder.now in
    let begin = scene logs handeds framed c.args.decoder.now c.args.shown.now.items in
    let old = scene logs handeds framed c.feed.new.decoder c.feed.new.shown.items in
    let new = scene logs handeds framed c.take_last-answer.new.decoder c.take_last-answer.new.shown.items in
    let r = c.take_last-answer.result in
    let k = c.in-Ok.unit in
    let window = c.feed.new.window in
    let fed = c.in_ok-fed.ensures.fed in
    let ends : EndsRun r o k (units window) old new =
    subst (λ (p : Options). EndsRun r p k (units window) old new) c.in_ok-fed.ensures.options
    (subst (λ (bytes : List ℕ). EndsRun r (set_for c.feed.new.decoder) k (units bytes) old new)
    c.as_slice.ensures c.take_last-answer.ensures.ends) in
    source_whole o c.args.limit fed.0 window k begin old new r (g.S.Source.left c.args.source.now)
    (g.S.Source.left c.feed.new.source)
    (subst (λ (x : Result ℕ Refused). FedTo x o fed.0 window begin old) c.in-Ok.is fed.3) ends fed.1
    (omega (arith, fed.2))

pub returns-clause-drained : goal.returns-clause-drained
returns-clause-drained g c =
    let logs = g.B.StatelessH265DecoderBackend.log in
    let handeds = g.B.StatelessH265DecoderBackend.handed in
    let framed = g.B.StatelessH265DecoderBackend.frames in
    let o = set_for c.args.decoder.now in
    let begin = scene logs handeds framed c.args.decoder.now c.args.shown.now.items in
    let now = scene logs handeds framed c.feed.new.decoder c.feed.new.shown.items in
    let fed = c.in_ok-fed.ensures.fed in
    let more = c.in_ok-skip.ensures.all in
    let both = length-append fed.0 more.0 in
    let stopped = subst (λ (x : Result ℕ Refused). FedTo x o fed.0 c.feed.new.window begin now) c.in_default.is fed.3 in
    subst (λ (x : Result ℕ Refused). Drained o c.args.limit (g.S.Source.left c.args.source.now)
    (g.S.Source.left c.skip.new.source) x (trail_of begin) (trail_of now)) (sym c.in_default.is)
    (source_stopped o c.args.limit fed.0 more.0 c.in_default.field-0 begin now
    (g.S.Source.left c.args.source.now) (g.S.Source.left c.feed.new.source)
    (g.S.Source.left c.skip.new.source) stopped fed.1 more.2 (omega (arith, both, fed.2, more.1)))

pub returns-in_err-skip-clause-outputs : goal.returns-in_err-skip-clause-outputs
returns-in_err-skip-clause-outputs g c =
    let logs = g.B.StatelessH265DecoderBackend.log in
    let handeds = g.B.StatelessH265DecoderBackend.handed in
    let framed = g.B.StatelessH265DecoderBackend.frames in
    let o = set_for c.args.decoder.now in
    let begin = scene logs handeds framed c.args.decoder.now c.args.shown.now.items in
    let now = scene logs handeds framed c.feed.new.decoder c.feed.new.shown.items in
    let fed = c.in_ok-fed.ensures.fed in
    let p = err_from_is_err_and c.from_residual-in_err-skip.result c.from_residual-in_err-skip.ensures.1 in
    rw p.1 (stopped_front o fed.0 c.in_default.field-0 begin now (g.S.Source.left c.args.source.now)
    (g.S.Source.left c.feed.new.source)
    (subst (λ (x : Result ℕ Refused). FedTo x o fed.0 c.feed.new.window begin now) c.in_default.is fed.3) fed.1)

is_error : {T : Type 0} (x y : InputError) → IsErrOf {T = T} (Err x) y → x ≡ y
is_error x y e = cc e

pub returns-in_err-skip-clause-too_long : goal.returns-in_err-skip-clause-too_long
returns-in_err-skip-clause-too_long g c e =
    let fed = c.in_ok-fed.ensures.fed in
    let p = err_from_is_err_and c.from_residual-in_err-skip.result c.from_residual-in_err-skip.ensures.1 in
    let same : c.in_err-skip.field-0.0 ≡ TooLong =
    is_error _ _ (subst (λ (x : Result (Result ℕ Refused) InputError). IsErrOf x TooLong) (p.1 ∙ ap Err p.2) e) in
    let more = c.in_err-skip.ensures.too_long (ap Err same) in
    let both = length-append fed.0 more.0 in
    (fed.0 ++ more.0, omega (arith, both, fed.2, more.1), Consumes-trans _ _ _ _ _ fed.1 more.2)
