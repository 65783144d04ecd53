use Rattle.hevc_stream_examples.proofs.Computed.{computed}
use Rattle.hevc_stream_examples.proofs.kept_video_sets.Goals as goal

pub returns : goal.returns
returns c = computed.video_sets
