use Rattle.hevc_index_laws.proofs.Points.{numbered_is_point, point_is_found}
use Rattle.hevc_index_laws.proofs.points_have_numbers.Goals as goal

pub returns-clause-has : goal.returns-clause-has
returns-clause-has c = numbered_is_point

pub returns-clause-found : goal.returns-clause-found
returns-clause-found c = point_is_found
