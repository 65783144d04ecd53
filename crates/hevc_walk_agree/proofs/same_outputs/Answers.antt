use Rattle.std.proofs.Common.{ap}
use Rattle.hevc_walk.specs.Results.{outputs_in}
use Rattle.hevc_walk_agree.proofs.Joined.{events-same}
use Rattle.hevc_walk_agree.proofs.same_outputs.Goals as goal

pub returns : goal.returns
returns c us = ap outputs_in (events-same us)
