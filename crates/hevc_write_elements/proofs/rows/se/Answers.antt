use Rattle.std.proofs.Common.{rules}
use Rattle.hevc_write_elements.proofs.rows.se.Goals as goal

pub returns : goal.returns
returns c = search rules
