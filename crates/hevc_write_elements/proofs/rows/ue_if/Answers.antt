use Rattle.std.proofs.Common.{rules}
use Rattle.hevc_write_elements.proofs.rows.ue_if.Goals as goal

pub returns-else-present : goal.returns-else-present
returns-else-present c = search rules
