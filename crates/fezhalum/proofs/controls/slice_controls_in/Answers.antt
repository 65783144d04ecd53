use Rattle.std.proofs.Common.{rules}
use Rattle.fezhalum.proofs.controls.slice_controls_in.Goals as goal

pub returns : goal.returns
returns c = search rules
