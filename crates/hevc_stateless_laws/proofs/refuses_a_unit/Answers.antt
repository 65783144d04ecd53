use Rattle.hevc_stateless_laws.proofs.Refusing.{refused_first}
use Rattle.hevc_stateless_laws.proofs.refuses_a_unit.Goals as goal

pub returns : goal.returns
returns g c error t options us others u old new is after takes =
    refused_first error t options us others u old new is after takes
