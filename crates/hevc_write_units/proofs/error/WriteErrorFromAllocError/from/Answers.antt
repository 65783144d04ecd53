use Rattle.std.proofs.Common.{rules}
use Rattle.hevc_write_units.proofs.error.WriteErrorFromAllocError.from.Goals as goal

pub returns : goal.returns
returns c = search rules
