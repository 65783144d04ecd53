use Rattle.hevc_stream_examples.proofs.Computed.{computed}
use Rattle.hevc_stream_examples.proofs.dependent_slices.Goals as goal

pub returns-clause-dependent_alone : goal.returns-clause-dependent_alone
returns-clause-dependent_alone c = computed.dependent_alone

pub returns-clause-dependent_behind : goal.returns-clause-dependent_behind
returns-clause-dependent_behind c = computed.dependent_behind
