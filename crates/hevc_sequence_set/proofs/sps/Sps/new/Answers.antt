use Rattle.std.proofs.Common.{rules}
use Rattle.hevc_sequence_set.proofs.sps.Sps.new.Goals as goal

pub invariant_of-result : goal.invariant_of-result
invariant_of-result c = search rules
