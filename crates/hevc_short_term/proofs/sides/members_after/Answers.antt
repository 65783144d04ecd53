use Rattle.std.proofs.Common.{◌≡◌, arith}
use Rattle.std.proofs.lemmas.Grind.{common_steps}
use Rattle.hevc_tables.specs.ShortTermTable.{members_after}
use Rattle.hevc_short_term_laws.proofs.Parts.{fit_at, lie_after}
use Rattle.hevc_short_term.proofs.sides.members_after.Goals as goal

pub returns-clause-after : goal.returns-clause-after
unfolding members_after
returns-clause-after c =
    let all : c.loop-i.after ≡ members_after c.args.members.now = grind (arith, common_steps) in
    rw all (lie_after c.args.members.now c.requires.rises c.requires.fit)

pub push-requires-clause-fits : goal.push-requires-clause-fits
push-requires-clause-fits c = fit_at c.args.members.now c.loop-i.i _ (omega (arith, c.loop-i-test.true)) c.requires.fit
