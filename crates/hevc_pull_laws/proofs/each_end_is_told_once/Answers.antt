use Rattle.hevc_pull_laws.proofs.Whole.{all_are_told, never_twice, none_after}
use Rattle.hevc_pull_laws.proofs.each_end_is_told_once.Goals as goal

pub returns-clause-once : goal.returns-clause-once
returns-clause-once c = never_twice

pub returns-clause-all : goal.returns-clause-all
returns-clause-all c = all_are_told

pub returns-clause-end : goal.returns-clause-end
returns-clause-end c = none_after
