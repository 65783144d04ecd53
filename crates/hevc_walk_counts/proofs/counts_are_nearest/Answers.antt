use Rattle.hevc_walk_counts.proofs.Nearest.{nearest_is}
use Rattle.hevc_walk_counts.proofs.counts_are_nearest.Goals as goal

pub returns : goal.returns
returns c = nearest_is
