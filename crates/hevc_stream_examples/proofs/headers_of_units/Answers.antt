use Rattle.std.proofs.Common.{refl}
use Rattle.hevc_stream_examples.proofs.headers_of_units.Goals as goal

pub returns-clause-fields : goal.returns-clause-fields
returns-clause-fields c = refl

pub returns-clause-base_layer : goal.returns-clause-base_layer
returns-clause-base_layer c = refl

pub returns-clause-last : goal.returns-clause-last
returns-clause-last c = refl

pub returns-clause-types : goal.returns-clause-types
returns-clause-types c = refl
