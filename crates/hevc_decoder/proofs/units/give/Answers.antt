use Rattle.std.proofs.Common.{rules}
use Rattle.hevc_decoder.proofs.units.give.Goals as goal

pub returns-clause-gives : goal.returns-clause-gives
returns-clause-gives g c = search rules
