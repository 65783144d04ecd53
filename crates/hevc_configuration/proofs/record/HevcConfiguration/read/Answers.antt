use Rattle.std.proofs.Common.{arith, subst}
use Rattle.hevc_configuration.specs.Reading.{Gives}
use Rattle.hevc_configuration.specs.Views.{plain}
use Rattle.hevc_configuration.proofs.Again.{configuration_again}
use Rattle.hevc_configuration.proofs.Found.{is_found}
use Rattle.hevc_configuration.proofs.record.HevcConfiguration.read.Goals as goal

pub returns-clause-found : goal.returns-clause-found
returns-clause-found c =
    is_found c.args.bytes.now c.read_all.result (λ i. omega (arith, c.type_inv.bytes i)) c.read_all.ensures

pub returns-clause-only : goal.returns-clause-only
returns-clause-only c = λ x are.
    subst (λ r. Gives plain c.read_all.result r)
    (configuration_again c.args.bytes.now x (λ i. omega (arith, c.type_inv.bytes i)) are) c.read_all.ensures
