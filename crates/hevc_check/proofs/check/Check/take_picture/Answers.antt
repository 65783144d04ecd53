use Rattle.std.proofs.Common.{rules}
use Rattle.hevc_check.proofs.check.Check.take_picture.Goals as goal

pub returns-clause-sequences : goal.returns-clause-sequences
returns-clause-sequences c = search rules
