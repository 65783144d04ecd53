use Rattle.std.proofs.Common.{rules}
use Rattle.hevc_scaling.proofs.size.ref_matrix.Goals as goal

pub returns-clause-value : goal.returns-clause-value
returns-clause-value c = search rules
