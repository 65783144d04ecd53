use Rattle.hevc_stream_laws.proofs.Meanings.{stream_is, units_are}
use Rattle.hevc_stream_laws.proofs.meanings_meet_premises.Goals as goal

pub returns-clause-stream : goal.returns-clause-stream
returns-clause-stream c = stream_is

pub returns-clause-units : goal.returns-clause-units
returns-clause-units c = units_are
