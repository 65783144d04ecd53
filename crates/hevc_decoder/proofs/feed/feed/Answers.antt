use Rattle.std.proofs.Common.{ℕ, ◌-◌, List, [], ◌++◌, length, refl, sym, ◌∙◌, ap, subst, arith, rules, Ok, Err}
use Rattle.std.proofs.lemmas.List.{length-append}
use Rattle.std.proofs.lemmas.Result.{err_from_is_err_and}
use Rattle.std.proofs.KnownBytes.{Consumes-nil, Consumes-trans}
use Rattle.hevc_stream.specs.Options.{Options}
use Rattle.hevc_stateless.specs.Decoders.{view_of, set_for}
use Rattle.hevc_stateless.specs.Views.{View}
use Rattle.hevc_decoder.specs.Scenes.{scene}
use Rattle.hevc_decoder.specs.Sources.{Fed, FeedsOn}
use Rattle.hevc_bits.specs.StartCode.{NoneStands}
use Rattle.hevc_decoder.proofs.Windows.{one_seen}
use Rattle.hevc_decoder.proofs.Feeding.{fed_first, fed_more, fed_front}
use Rattle.hevc_decoder.proofs.feed.feed.Goals as goal

pub loop-count-init : goal.loop-count-init
loop-count-init g c =
    let o = set_for c.args.decoder.now in
    let now = scene g.B.StatelessH265DecoderBackend.log g.B.StatelessH265DecoderBackend.handed
    g.B.StatelessH265DecoderBackend.frames c.args.decoder.now c.args.shown.now.items in
    let none = ap (λ (bytes : List ℕ). length bytes) c.requires.fresh in
    record {
      fed = (
        [],
        Consumes-nil (g.S.Source.left c.args.source.now),
        omega arith,
        subst (λ (window : List ℕ). Fed o [] window 0 now now) (sym c.requires.fresh)
            (fed_first o now (view_of c.args.decoder.now).backend c.requires.beginning c.requires.nothing),
      );
      one = subst (λ (window : List ℕ). NoneStands window 1 (length window)) (sym c.requires.fresh)
          (λ place behind within stands. absurd (omega (arith, within)));
      few = omega (arith, none);
      empty = ap (λ (v : View g.row.B.Denot g.row.B-Handle.Denot). v.queue) c.requires.beginning;
      counts = refl;
      faultless = λ h. h;
      options = refl;
      later = omega arith;
    }

pub returns-in_err-count-clause-outputs : goal.returns-in_err-count-clause-outputs
returns-in_err-count-clause-outputs g c =
    let logs = g.B.StatelessH265DecoderBackend.log in
    let handeds = g.B.StatelessH265DecoderBackend.handed in
    let framed = g.B.StatelessH265DecoderBackend.frames in
    let fed = c.loop-count.invariant.fed in
    let p = err_from_is_err_and c.from_residual.result c.from_residual.ensures.1 in
    rw p.1 (fed_front (set_for c.args.decoder.now) fed.0 c.loop-count.window c.loop-count.unit
    (scene logs handeds framed c.args.decoder.now c.args.shown.now.items)
    (scene logs handeds framed c.loop-count.decoder c.loop-count.shown.items)
    (g.S.Source.left c.args.source.now) (g.S.Source.left c.loop-count.source) fed.3 fed.1)

pub returns-then-count-left-clause-outputs : goal.returns-then-count-left-clause-outputs
returns-then-count-left-clause-outputs g c =
    let logs = g.B.StatelessH265DecoderBackend.log in
    let handeds = g.B.StatelessH265DecoderBackend.handed in
    let framed = g.B.StatelessH265DecoderBackend.frames in
    let fed = c.loop-count.invariant.fed in
    fed_front (set_for c.args.decoder.now) fed.0 c.loop-count.window c.loop-count.unit
    (scene logs handeds framed c.args.decoder.now c.args.shown.now.items)
    (scene logs handeds framed c.loop-count.decoder c.loop-count.shown.items)
    (g.S.Source.left c.args.source.now) (g.S.Source.left c.loop-count.source) fed.3 fed.1

pub returns-then-count-left-clause-too_long : goal.returns-then-count-left-clause-too_long
returns-then-count-left-clause-too_long g c =
    let fed = c.loop-count.invariant.fed in
    let more = c.in_ok-count.ensures.more in
    let both = length-append fed.0 more.0 in
    λ _. (
      fed.0 ++ more.0,
      omega (arith, both, fed.2, more.2, c.if-count-left.true),
      Consumes-trans _ _ _ _ _ fed.1 more.3,
    )

pub loop-count-preserved : goal.loop-count-preserved
loop-count-preserved g c =
    let logs = g.B.StatelessH265DecoderBackend.log in
    let handeds = g.B.StatelessH265DecoderBackend.handed in
    let framed = g.B.StatelessH265DecoderBackend.frames in
    let o = set_for c.args.decoder.now in
    let begin = scene logs handeds framed c.args.decoder.now c.args.shown.now.items in
    let now = scene logs handeds framed c.loop-count.decoder c.loop-count.shown.items in
    let new = scene logs handeds framed c.take_whole.new.decoder c.take_whole.new.shown.items in
    let fed = c.loop-count.invariant.fed in
    let more = c.in_ok-count.ensures.more in
    let both = length-append fed.0 more.0 in
    let there : Fed o (fed.0 ++ more.0) c.read.new.self c.loop-count.unit begin now =
    subst (λ (window : List ℕ). Fed o (fed.0 ++ more.0) window c.loop-count.unit begin now) (sym more.1)
    (fed_more o fed.0 c.loop-count.window more.0 c.loop-count.unit begin now fed.3) in
    let feeds : FeedsOn (Ok c.in-Ok.next) o c.loop-count.unit c.read.new.self c.take_whole.new.window now
    new = subst (λ (p : Options). FeedsOn (Ok c.in-Ok.next) p c.loop-count.unit c.read.new.self
    c.take_whole.new.window now new) c.loop-count.invariant.options c.in-Ok.ensures.feeds in
    record {
      fed = (
        fed.0 ++ more.0,
        Consumes-trans _ _ _ _ _ fed.1 more.3,
        omega (arith, both, fed.2, more.2, c.if-count-left.false),
        feeds begin (fed.0 ++ more.0) there,
      );
      one = c.in-Ok.ensures.left;
      few = omega (
        arith,
        c.loop-count.invariant.few,
        c.in-Ok.ensures.few,
        c.in_ok-count.ensures.bound,
        c.if-count-left.false,
      );
      empty = c.in-Ok.ensures.empty;
      counts = c.in-Ok.ensures.blames.cause ∙ c.loop-count.invariant.counts;
      faultless = λ h. (c.in-Ok.ensures.blames.faultless (c.loop-count.invariant.faultless h)).0;
      options = c.in-Ok.ensures.options ∙ c.loop-count.invariant.options;
      later = search rules;
    }

pub returns-in-Err-clause-fed : goal.returns-in-Err-clause-fed
returns-in-Err-clause-fed g c =
    let logs = g.B.StatelessH265DecoderBackend.log in
    let handeds = g.B.StatelessH265DecoderBackend.handed in
    let framed = g.B.StatelessH265DecoderBackend.frames in
    let o = set_for c.args.decoder.now in
    let begin = scene logs handeds framed c.args.decoder.now c.args.shown.now.items in
    let now = scene logs handeds framed c.loop-count.decoder c.loop-count.shown.items in
    let new = scene logs handeds framed c.take_whole.new.decoder c.take_whole.new.shown.items in
    let fed = c.loop-count.invariant.fed in
    let more = c.in_ok-count.ensures.more in
    let both = length-append fed.0 more.0 in
    let there : Fed o (fed.0 ++ more.0) c.read.new.self c.loop-count.unit begin now =
    subst (λ (window : List ℕ). Fed o (fed.0 ++ more.0) window c.loop-count.unit begin now) (sym more.1)
    (fed_more o fed.0 c.loop-count.window more.0 c.loop-count.unit begin now fed.3) in
    let feeds : FeedsOn (Err c.in-Err.refused) o c.loop-count.unit c.read.new.self c.take_whole.new.window
    now new = subst
    (λ (p : Options). FeedsOn (Err c.in-Err.refused) p c.loop-count.unit c.read.new.self
    c.take_whole.new.window now new) c.loop-count.invariant.options c.in-Err.ensures.feeds in (
      fed.0 ++ more.0,
      Consumes-trans _ _ _ _ _ fed.1 more.3,
      omega (arith, both, fed.2, more.2, c.if-count-left.false),
      feeds begin (fed.0 ++ more.0) there,
    )

pub take_whole-requires-clause-seen : goal.take_whole-requires-clause-seen
take_whole-requires-clause-seen g c =
    let more = c.in_ok-count.ensures.more in
    let seen = one_seen c.loop-count.window more.0 1 c.loop-count.invariant.one in
    subst (λ (n : ℕ). NoneStands c.read.new.self 1 (n - 2)) (sym c.len-seen.ensures)
    (subst (λ (window : List ℕ). NoneStands window 1 (length c.loop-count.window - 2)) (sym more.1) seen)
