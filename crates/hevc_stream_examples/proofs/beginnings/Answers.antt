use Rattle.hevc_stream_examples.proofs.Computed.{computed}
use Rattle.hevc_stream_examples.proofs.beginnings.Goals as goal

pub returns-clause-empty : goal.returns-clause-empty
returns-clause-empty c = computed.empty

pub returns-clause-before_sets : goal.returns-clause-before_sets
returns-clause-before_sets c = computed.before_sets
