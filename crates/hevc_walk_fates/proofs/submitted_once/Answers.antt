use Rattle.hevc_walk_fates.proofs.Submitted.{submitted_once}
use Rattle.hevc_walk_fates.proofs.submitted_once.Goals as goal

pub returns : goal.returns
returns c = submitted_once
