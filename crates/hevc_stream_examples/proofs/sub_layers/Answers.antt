use Rattle.hevc_stream_examples.proofs.Computed.{computed}
use Rattle.hevc_stream_examples.proofs.sub_layers.Goals as goal

pub returns-clause-lowest : goal.returns-clause-lowest
returns-clause-lowest c = computed.lower_layer

pub returns-clause-highest : goal.returns-clause-highest
returns-clause-highest c = computed.higher_layer
