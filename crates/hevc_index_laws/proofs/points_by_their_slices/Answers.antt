use Rattle.hevc_index_laws.proofs.Slices.{header_is, order_count_is}
use Rattle.hevc_index_laws.proofs.points_by_their_slices.Goals as goal

pub returns-clause-order_count : goal.returns-clause-order_count
returns-clause-order_count c = order_count_is

pub returns-clause-header : goal.returns-clause-header
returns-clause-header c = header_is
