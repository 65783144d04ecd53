use Rattle.std.proofs.Common.{rules}
use Rattle.hevc_backend.proofs.recording.Backend.with_plan.Goals as goal

pub returns : goal.returns
returns c = search rules
