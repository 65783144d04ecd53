use Rattle.std.proofs.Common.{ap}
use Rattle.hevc_walk.specs.Results.{calls_in}
use Rattle.hevc_walk_agree.proofs.Joined.{events-same}
use Rattle.hevc_walk_agree.proofs.same_calls.Goals as goal

pub returns : goal.returns
returns c us = ap calls_in (events-same us)
