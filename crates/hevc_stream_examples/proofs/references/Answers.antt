use Rattle.hevc_stream_examples.proofs.Computed.{computed}
use Rattle.hevc_stream_examples.proofs.references.Goals as goal

pub returns-clause-equal_counts : goal.returns-clause-equal_counts
returns-clause-equal_counts c = computed.equal_counts

pub returns-clause-without_reference : goal.returns-clause-without_reference
returns-clause-without_reference c = computed.without_reference
