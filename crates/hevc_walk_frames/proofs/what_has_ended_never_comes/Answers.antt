use Rattle.hevc_walk_frames.proofs.Coming.{ended_by_unit, ended_at_end}
use Rattle.hevc_walk_frames.proofs.what_has_ended_never_comes.Goals as goal

pub returns-clause-unit : goal.returns-clause-unit
returns-clause-unit c = ended_by_unit

pub returns-clause-end : goal.returns-clause-end
returns-clause-end c = ended_at_end
