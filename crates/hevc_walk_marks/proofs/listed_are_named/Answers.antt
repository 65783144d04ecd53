use Rattle.hevc_walk_marks.proofs.Lists.{list0_named, list1_named}
use Rattle.hevc_walk_marks.proofs.listed_are_named.Goals as goal

pub returns-clause-list0 : goal.returns-clause-list0
returns-clause-list0 c = list0_named

pub returns-clause-list1 : goal.returns-clause-list1
returns-clause-list1 c = list1_named
