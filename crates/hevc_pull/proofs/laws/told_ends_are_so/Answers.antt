use Rattle.hevc_pull.proofs.Told.{dropped_is, output_is, skipped_is}
use Rattle.hevc_pull.proofs.laws.told_ends_are_so.Goals as goal

pub returns-clause-dropped : goal.returns-clause-dropped
returns-clause-dropped c = dropped_is

pub returns-clause-skipped : goal.returns-clause-skipped
returns-clause-skipped c = skipped_is

pub returns-clause-output : goal.returns-clause-output
returns-clause-output c = output_is
