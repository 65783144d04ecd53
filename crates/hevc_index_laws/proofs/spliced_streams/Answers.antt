use Rattle.hevc_index_laws.proofs.Begun.{begins_at, found}
use Rattle.hevc_index_laws.proofs.spliced_streams.Goals as goal

pub returns-clause-found : goal.returns-clause-found
returns-clause-found c = found

pub returns-clause-begins : goal.returns-clause-begins
returns-clause-begins c = begins_at
