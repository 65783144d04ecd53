use Rattle.hevc_walk_agree.proofs.Ends.{calls-below, outputs-below}
use Rattle.hevc_walk_agree.proofs.done_by_the_end.Goals as goal

pub returns-clause-calls : goal.returns-clause-calls
returns-clause-calls c = calls-below

pub returns-clause-outputs : goal.returns-clause-outputs
returns-clause-outputs c = outputs-below
