use Rattle.hevc_walk_agree.proofs.Cuts.{calls-at, outputs-at}
use Rattle.hevc_walk_agree.proofs.done_at.Goals as goal

pub returns-clause-calls : goal.returns-clause-calls
returns-clause-calls c = calls-at

pub returns-clause-outputs : goal.returns-clause-outputs
returns-clause-outputs c = outputs-at
