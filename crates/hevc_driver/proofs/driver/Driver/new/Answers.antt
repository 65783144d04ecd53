use Rattle.std.proofs.Common.{rules}
use Rattle.hevc_driver.proofs.driver.Driver.new.Goals as goal

pub returns-clause-standing : goal.returns-clause-standing
returns-clause-standing g c = search rules
