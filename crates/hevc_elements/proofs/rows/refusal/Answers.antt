use Rattle.std.proofs.Common.{rules}
use Rattle.hevc_elements.proofs.rows.refusal.Goals as goal

pub returns-in-OutOfBits : goal.returns-in-OutOfBits
returns-in-OutOfBits c = search rules
