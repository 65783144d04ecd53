use Rattle.std.proofs.Common.{rules}
use Rattle.fezhalum.proofs.fresh_with.Goals as goal

pub returns : goal.returns
returns c = search rules
