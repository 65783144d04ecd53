use Rattle.hevc_walk_fates.proofs.Submitted.{output_submitted}
use Rattle.hevc_walk_fates.proofs.outputs_are_submitted.Goals as goal

pub returns : goal.returns
returns c = output_submitted
