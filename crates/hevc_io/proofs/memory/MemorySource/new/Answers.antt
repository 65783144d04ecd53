use Rattle.std.proofs.Common.{rules}
use Rattle.hevc_io.proofs.memory.MemorySource.new.Goals as goal

pub invariant_of-result : goal.invariant_of-result
invariant_of-result c = search rules

pub returns-clause-left : goal.returns-clause-left
returns-clause-left c = search rules
