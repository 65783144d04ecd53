use Rattle.hevc_walk_agree.proofs.Dropped.{dropped_calls, dropped_outputs, dropped_verdict}
use Rattle.hevc_walk_agree.proofs.dropped_unit.Goals as goal

pub returns-clause-calls : goal.returns-clause-calls
returns-clause-calls c = dropped_calls

pub returns-clause-outputs : goal.returns-clause-outputs
returns-clause-outputs c = dropped_outputs

pub returns-clause-verdict : goal.returns-clause-verdict
returns-clause-verdict c = dropped_verdict
