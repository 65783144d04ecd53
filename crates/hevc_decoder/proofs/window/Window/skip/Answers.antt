use Rattle.std.proofs.Common.{arith, rules, ◌++◌}
use Rattle.std.proofs.lemmas.List.{length-append}
use Rattle.std.proofs.KnownBytes.{Consumes-trans}
use Rattle.hevc_decoder.proofs.window.Window.skip.Goals as goal

pub returns-then-count-left-clause-too_long : goal.returns-then-count-left-clause-too_long
returns-then-count-left-clause-too_long g c =
    let before = c.loop-count.invariant.given in
    let more = c.in_ok-count.ensures.more in
    let both = length-append before.0 more.0 in
    λ _. (
      before.0 ++ more.0,
      omega (arith, both, before.1, more.2, c.if-count-left.true),
      Consumes-trans _ _ _ _ _ before.2 more.3,
    )

pub loop-count-preserved : goal.loop-count-preserved
loop-count-preserved g c =
    let before = c.loop-count.invariant.given in
    let more = c.in_ok-count.ensures.more in
    let both = length-append before.0 more.0 in
    record {
      given = (
        before.0 ++ more.0,
        omega (arith, both, before.1, more.2, c.if-count-left.false),
        Consumes-trans _ _ _ _ _ before.2 more.3,
      );
      later = search rules;
    }
