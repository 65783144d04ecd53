use Rattle.std.proofs.Common.{rules}
use Rattle.fezhalum.proofs.controls.entry_points_in.Goals as goal

pub returns : goal.returns
returns c = search rules
