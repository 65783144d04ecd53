use Rattle.std.proofs.Common.{refl}
use Rattle.hevc_walk.specs.OrderCounts.{nearest}
use Rattle.hevc_walk.specs.Pictures.{head}
use Rattle.hevc_index_examples.proofs.kinds_of_points.Goals as goal

pub returns-clause-two : goal.returns-clause-two
unfolding head nearest
returns-clause-two c = refl

pub returns-clause-types : goal.returns-clause-types
unfolding head nearest
returns-clause-types c = refl

pub returns-clause-temporal_id : goal.returns-clause-temporal_id
unfolding head nearest
returns-clause-temporal_id c = refl
