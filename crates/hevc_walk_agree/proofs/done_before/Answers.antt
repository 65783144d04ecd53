use Rattle.hevc_walk_agree.proofs.Cuts.{calls-before, outputs-before}
use Rattle.hevc_walk_agree.proofs.done_before.Goals as goal

pub returns-clause-calls : goal.returns-clause-calls
returns-clause-calls c = calls-before

pub returns-clause-outputs : goal.returns-clause-outputs
returns-clause-outputs c = outputs-before
