use Rattle.std.proofs.Common.{rules}
use Rattle.fezhalum.proofs.controls.want_controls_in.Goals as goal

pub returns : goal.returns
returns c = search rules
