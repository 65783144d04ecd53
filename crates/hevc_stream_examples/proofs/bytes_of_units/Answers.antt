use Rattle.std.proofs.Common.{refl}
use Rattle.hevc_spec.specs.Units.{units_from}
use Rattle.hevc_stream_examples.proofs.bytes_of_units.Goals as goal

pub returns-clause-units : goal.returns-clause-units
unfolding units_from
returns-clause-units c = refl

pub returns-clause-payload : goal.returns-clause-payload
returns-clause-payload c = refl
