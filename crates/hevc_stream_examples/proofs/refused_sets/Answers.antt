use Rattle.hevc_stream_examples.proofs.Computed.{computed}
use Rattle.hevc_stream_examples.proofs.refused_sets.Goals as goal

pub returns-clause-many_sub_layers : goal.returns-clause-many_sub_layers
returns-clause-many_sub_layers c = computed.many_sub_layers

pub returns-clause-no_level : goal.returns-clause-no_level
returns-clause-no_level c = computed.no_level

pub returns-clause-long_latency : goal.returns-clause-long_latency
returns-clause-long_latency c = computed.long_latency

pub returns-clause-cut_video_set : goal.returns-clause-cut_video_set
returns-clause-cut_video_set c = computed.cut_video_set
