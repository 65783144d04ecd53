use Rattle.std.proofs.Common.{rules}
use Rattle.fezhalum.proofs.fresh.Goals as goal

pub returns : goal.returns
returns c = search rules
