use Rattle.std.proofs.Common.{◌-◌, arith}
use Rattle.hevc_short_term_laws.proofs.Parts.{fit_at}
use Rattle.hevc_short_term.proofs.sides.members_before.Goals as goal

pub push-requires-clause-fits : goal.push-requires-clause-fits
push-requires-clause-fits c =
    fit_at c.args.members.now (c.loop-i.i - 1) _ (omega (arith, c.loop-i-test.true)) c.requires.fit
