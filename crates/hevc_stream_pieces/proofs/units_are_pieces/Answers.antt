use Rattle.hevc_stream_pieces.proofs.Cut.{trimmed_units, headed_units}
use Rattle.hevc_stream_pieces.proofs.units_are_pieces.Goals as goal

pub returns-clause-trimmed : goal.returns-clause-trimmed
returns-clause-trimmed c = trimmed_units

pub returns-clause-headed : goal.returns-clause-headed
returns-clause-headed c = headed_units
