use Rattle.hevc_stream_examples.proofs.Computed.{computed}
use Rattle.hevc_stream_examples.proofs.refused_slices.Goals as goal

pub returns-clause-ends_early : goal.returns-clause-ends_early
returns-clause-ends_early c = computed.ends_early

pub returns-clause-missing_set : goal.returns-clause-missing_set
returns-clause-missing_set c = computed.missing_set

pub returns-clause-no_sets_yet : goal.returns-clause-no_sets_yet
returns-clause-no_sets_yet c = computed.no_sets_yet
