use Rattle.hevc_stateless_laws.proofs.Shortened.{others_left}
use Rattle.hevc_stateless_laws.proofs.others_are_left.Goals as goal

pub returns : goal.returns
returns c stream u others e = others_left stream u others e
