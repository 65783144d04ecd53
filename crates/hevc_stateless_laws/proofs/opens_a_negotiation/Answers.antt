use Rattle.hevc_stateless_laws.proofs.Opening.{opens_first}
use Rattle.hevc_stateless_laws.proofs.opens_a_negotiation.Goals as goal

pub returns : goal.returns
returns g c t options us others u old new after takes = opens_first t options us others u old new after takes
