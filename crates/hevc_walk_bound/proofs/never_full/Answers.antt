use Rattle.hevc_walk_bound.proofs.Bound.{never_full, clean_ok}
use Rattle.hevc_walk_bound.proofs.never_full.Goals as goal

pub returns-clause-full : goal.returns-clause-full
returns-clause-full c = never_full

pub returns-clause-verdict : goal.returns-clause-verdict
returns-clause-verdict c = clean_ok
