use Rattle.hevc_stream_laws.proofs.KeptWell.{above_wanted, before_first}
use Rattle.hevc_stream_laws.proofs.unasked_units.Goals as goal

pub returns-clause-above : goal.returns-clause-above
returns-clause-above c = above_wanted

pub returns-clause-first : goal.returns-clause-first
returns-clause-first c = before_first
