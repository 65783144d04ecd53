use Rattle.hevc_index_laws.proofs.Points.{are_points, contain_points, numbers_rise, units_rise, units_within}
use Rattle.hevc_index_laws.proofs.points_are_in_order.Goals as goal

pub returns-clause-only : goal.returns-clause-only
returns-clause-only c = are_points

pub returns-clause-each : goal.returns-clause-each
returns-clause-each c = contain_points

pub returns-clause-numbers : goal.returns-clause-numbers
returns-clause-numbers c = numbers_rise

pub returns-clause-units : goal.returns-clause-units
returns-clause-units c = units_rise

pub returns-clause-within : goal.returns-clause-within
returns-clause-within c = units_within
