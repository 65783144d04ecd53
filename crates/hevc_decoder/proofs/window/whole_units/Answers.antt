use Rattle.std.proofs.Common.{◌≤◌, rules, ◌+◌, ◌-◌, refl, arith}
use mathlib.Core.Logic.{inl, inr}
use Rattle.hevc_decoder.proofs.Windows.{none_ends, none_here, stands_at, second, one_at, last_start}
use Rattle.hevc_decoder.proofs.window.whole_units.Goals as goal
use Rattle.hevc_decoder.proofs.window.whole_units.Goals.{else-one-ge2-via-then-one-ge2+then-bytes-one-eq0+else-bytes-one-eq0-2}
use Rattle.hevc_decoder.proofs.window.whole_units.Goals.{else-one-ge2-via-then-one-ge2+else-bytes-one-eq0}
use Rattle.hevc_decoder.proofs.window.whole_units.Goals.{else-one-ge2-via-else-one-ge2}

pub returns-in_default-clause-last : goal.returns-in_default-clause-last
returns-in_default-clause-last c =
    let none = none_ends c.args.bytes.now c.args.seen c.loop-end.end 0 c.loop-end.invariant.within
    c.in_default.ensures c.loop-end.invariant.none in
    last_start c.args.bytes.now c.args.seen 0 (inl refl) (λ start at ends. none start (omega (arith, ends.0)) ends)

pub returns-then-bytes-one-eq0-2-clause-last : goal.returns-then-bytes-one-eq0-2-clause-last
returns-then-bytes-one-eq0-2-clause-last c =
    let bytes = c.args.bytes.now in
    let seen = c.args.seen in
    let last = c.in-Some.ensures in
    let one = one_at bytes seen c.loop-end.end c.in-Some.behind c.loop-end.invariant.within last.0.high last.1 in
    let none = none_ends bytes seen c.loop-end.end (c.in-Some.behind + 1) c.loop-end.invariant.within
    last.0.after c.loop-end.invariant.none in
    let above : 2 ≤ seen + c.in-Some.behind = search rules in
    last_start bytes seen (seen + c.in-Some.behind - 2)
    (inr (
      omega (arith, above),
      stands_at bytes (seen + c.in-Some.behind) above one.0 c.if-bytes-one-eq0-2.true c.if-bytes-one-eq0.true one.1,
    ))
    (λ start at. none start (omega (arith, at, above)))

pub loop-end-preserved : goal.loop-end-preserved
loop-end-preserved c =
    let bytes = c.args.bytes.now in
    let seen = c.args.seen in
    let last = c.in-Some.ensures in
    let one = one_at bytes seen c.loop-end.end c.in-Some.behind c.loop-end.invariant.within last.0.high last.1 in
    let none = none_ends bytes seen c.loop-end.end (c.in-Some.behind + 1) c.loop-end.invariant.within
    last.0.after c.loop-end.invariant.none in
    record {
      within = omega (arith, one.0);
      none = none_here bytes seen (seen + c.in-Some.behind) (λ start at. none start (omega (arith, at)))
          (λ above stands. elim c.else-one-ge2.branch [
            | else-one-ge2-via-then-one-ge2+then-bytes-one-eq0+else-bytes-one-eq0-2 w ↦
                w.if-bytes-one-eq0-2.false stands.1
            | else-one-ge2-via-then-one-ge2+else-bytes-one-eq0 w ↦ w.if-bytes-one-eq0.false
                (second bytes (seen + c.in-Some.behind) above stands)
            | else-one-ge2-via-else-one-ge2 w ↦ absurd (omega (arith, above, w.if-one-ge2.false))
          ]);
    }
