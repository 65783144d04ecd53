use Rattle.std.proofs.Common.{sym, ◌∙◌}
use Rattle.hevc_dpb.proofs.PlainLaws.{plain_bumping_due}
use Rattle.hevc_dpb.proofs.dpb.Dpb.needs_bumping.Goals as goal

pub returns-clause-rule : goal.returns-clause-rule
returns-clause-rule g c h = c.is_bumping_due.ensures
    ∙ sym (plain_bumping_due c.args.limits.now c.args.self.now.entries.items h)
