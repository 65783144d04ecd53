use Rattle.std.proofs.Common.{sym, ◌∙◌}
use Rattle.hevc_dpb.proofs.PlainLaws.{plain_additional_due}
use Rattle.hevc_dpb.proofs.dpb.Dpb.needs_additional_bumping.Goals as goal

pub returns-clause-rule : goal.returns-clause-rule
returns-clause-rule g c h = c.is_additional_due.ensures
    ∙ sym (plain_additional_due c.args.limits.now c.args.self.now.entries.items h)
