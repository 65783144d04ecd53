use Rattle.std.proofs.Common.{rules}
use Rattle.fezhalum.proofs.seek_in.Goals as goal

pub returns : goal.returns
returns c = search rules
