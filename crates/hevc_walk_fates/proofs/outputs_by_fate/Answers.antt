use Rattle.hevc_walk_fates.proofs.Fates.{output_by_fate}
use Rattle.hevc_walk_fates.proofs.outputs_by_fate.Goals as goal

pub returns : goal.returns
returns c = output_by_fate
