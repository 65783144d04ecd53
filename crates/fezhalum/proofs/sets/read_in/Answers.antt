use Rattle.std.proofs.Common.{rules}
use Rattle.fezhalum.proofs.sets.read_in.Goals as goal

pub returns : goal.returns
returns c = search rules
