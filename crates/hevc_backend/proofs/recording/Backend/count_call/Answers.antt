use Rattle.std.proofs.Common.{rules}
use Rattle.hevc_backend.proofs.recording.Backend.count_call.Goals as goal

pub returns-then-fails-clause-failed : goal.returns-then-fails-clause-failed
returns-then-fails-clause-failed c = search rules
