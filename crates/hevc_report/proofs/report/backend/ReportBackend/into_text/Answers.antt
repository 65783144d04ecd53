use Rattle.hevc_backend.proofs.HandleLaws.{counted}
use Rattle.hevc_report.proofs.report.backend.ReportBackend.into_text.Goals as goal

pub returns-clause-handles : goal.returns-clause-handles
returns-clause-handles c =
    rw (← c.self.view_is) (counted c.self.inside.history.items c.self.inside.submitted c.self.invariant.1)
