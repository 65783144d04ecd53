use Rattle.hevc_walk_marks.proofs.Marks.{each_marked, exactly_marked, kinds_apart}
use Rattle.hevc_walk_marks.proofs.marked_are_named.Goals as goal

pub returns-clause-each : goal.returns-clause-each
returns-clause-each c = each_marked

pub returns-clause-exactly : goal.returns-clause-exactly
returns-clause-exactly c = exactly_marked

pub returns-clause-apart : goal.returns-clause-apart
returns-clause-apart c = kinds_apart
