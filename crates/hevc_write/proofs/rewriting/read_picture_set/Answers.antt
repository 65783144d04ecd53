use Rattle.std.proofs.Common.{rules}
use Rattle.hevc_write.proofs.rewriting.read_picture_set.Goals as goal

pub returns-in-Err : goal.returns-in-Err
returns-in-Err c = search rules
