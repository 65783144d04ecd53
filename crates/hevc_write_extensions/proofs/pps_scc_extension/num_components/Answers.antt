use Rattle.std.proofs.Common.{rules}
use Rattle.hevc_write_extensions.proofs.pps_scc_extension.num_components.Goals as goal

pub returns-then-x-clause-value : goal.returns-then-x-clause-value
returns-then-x-clause-value c = search rules
