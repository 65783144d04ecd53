use Rattle.std.proofs.Common.{rules}
use Rattle.hevc_driver.proofs.kept.put.Goals as goal

pub returns-clause-shared : goal.returns-clause-shared
returns-clause-shared c = search rules
