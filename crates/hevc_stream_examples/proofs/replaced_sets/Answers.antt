use Rattle.hevc_stream_examples.proofs.Computed.{computed}
use Rattle.hevc_stream_examples.proofs.replaced_sets.Goals as goal

pub returns-clause-not_read_again : goal.returns-clause-not_read_again
returns-clause-not_read_again c = computed.not_read_again

pub returns-clause-read_again : goal.returns-clause-read_again
returns-clause-read_again c = computed.read_again
