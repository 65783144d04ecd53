use Rattle.std.proofs.Common.{refl}
use Rattle.hevc_records.specs.SpsSizes.{leaves_some}
use Rattle.hevc_stream_examples.proofs.sizes_of_samples.Goals as goal

pub returns-clause-across : goal.returns-clause-across
returns-clause-across c = refl

pub returns-clause-down : goal.returns-clause-down
returns-clause-down c = refl

pub returns-clause-width : goal.returns-clause-width
unfolding leaves_some
returns-clause-width c = refl

pub returns-clause-height : goal.returns-clause-height
unfolding leaves_some
returns-clause-height c = refl

pub returns-clause-offsets : goal.returns-clause-offsets
returns-clause-offsets c = refl

pub returns-clause-low_offsets : goal.returns-clause-low_offsets
returns-clause-low_offsets c = refl
