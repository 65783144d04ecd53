use Rattle.hevc_walk_agree.proofs.Cuts.{calls-cut, outputs-cut, verdict-cut}
use Rattle.hevc_walk_agree.proofs.done_from.Goals as goal

pub returns-clause-calls : goal.returns-clause-calls
returns-clause-calls c = calls-cut

pub returns-clause-outputs : goal.returns-clause-outputs
returns-clause-outputs c = outputs-cut

pub returns-clause-verdict : goal.returns-clause-verdict
returns-clause-verdict c = verdict-cut
