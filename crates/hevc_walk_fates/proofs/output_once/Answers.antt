use Rattle.hevc_walk_fates.proofs.Fates.{output_once}
use Rattle.hevc_walk_fates.proofs.output_once.Goals as goal

pub returns : goal.returns
returns c = output_once
