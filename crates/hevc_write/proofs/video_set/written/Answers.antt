use Rattle.std.proofs.Common.{rules}
use Rattle.hevc_write.proofs.video_set.written.Goals as goal

pub returns : goal.returns
returns c = search rules
