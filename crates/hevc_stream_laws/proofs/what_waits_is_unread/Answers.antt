use Rattle.hevc_stream_laws.proofs.Waiting.{all_wait}
use Rattle.hevc_stream_laws.proofs.what_waits_is_unread.Goals as goal

pub returns : goal.returns
returns c = all_wait
