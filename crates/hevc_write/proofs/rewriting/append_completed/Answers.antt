use Rattle.std.proofs.Common.{rules}
use Rattle.hevc_write.proofs.rewriting.append_completed.Goals as goal

pub returns-in-0-clause-ok : goal.returns-in-0-clause-ok
returns-in-0-clause-ok c = search rules
