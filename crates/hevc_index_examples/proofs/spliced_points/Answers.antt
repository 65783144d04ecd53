use Rattle.std.proofs.Common.{refl}
use Rattle.hevc_spec.specs.Units.{units_from}
use Rattle.hevc_index_examples.proofs.spliced_points.Goals as goal

pub returns-clause-replaced : goal.returns-clause-replaced
unfolding units_from
returns-clause-replaced c = refl

pub returns-clause-later_sets : goal.returns-clause-later_sets
unfolding units_from
returns-clause-later_sets c = refl

pub returns-clause-zeros : goal.returns-clause-zeros
unfolding units_from
returns-clause-zeros c = refl

pub returns-clause-waiting : goal.returns-clause-waiting
unfolding units_from
returns-clause-waiting c = refl

pub returns-clause-first : goal.returns-clause-first
unfolding units_from
returns-clause-first c = refl
