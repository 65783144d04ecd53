use Rattle.hevc_walk.specs.OrderCounts.{nearest}
use Rattle.hevc_walk_counts.proofs.Nearest.{nearest_is, nearest_unique}
use Rattle.hevc_walk_counts.proofs.no_other_is_nearest.Goals as goal

pub returns : goal.returns
returns c modulus earlier lsb x h is =
    nearest_unique modulus earlier lsb x (nearest modulus earlier lsb) is (nearest_is modulus earlier lsb h)
