use Rattle.std.proofs.Common.{refl}
use Rattle.hevc_stream_examples.proofs.kinds_of_units.Goals as goal

pub returns-clause-idr : goal.returns-clause-idr
returns-clause-idr c = refl

pub returns-clause-bla : goal.returns-clause-bla
returns-clause-bla c = refl

pub returns-clause-cra : goal.returns-clause-cra
returns-clause-cra c = refl

pub returns-clause-irap : goal.returns-clause-irap
returns-clause-irap c = refl

pub returns-clause-leading : goal.returns-clause-leading
returns-clause-leading c = refl

pub returns-clause-skipped : goal.returns-clause-skipped
returns-clause-skipped c = refl

pub returns-clause-sub_layer : goal.returns-clause-sub_layer
returns-clause-sub_layer c = refl

pub returns-clause-slices : goal.returns-clause-slices
returns-clause-slices c = refl

pub returns-clause-ends : goal.returns-clause-ends
returns-clause-ends c = refl
