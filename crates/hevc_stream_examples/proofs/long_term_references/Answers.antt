use Rattle.hevc_stream_examples.proofs.Computed.{computed}
use Rattle.hevc_stream_examples.proofs.long_term_references.Goals as goal

pub returns : goal.returns
returns c = computed.referring
