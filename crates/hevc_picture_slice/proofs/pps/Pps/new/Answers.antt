use Rattle.std.proofs.Common.{rules}
use Rattle.hevc_picture_slice.proofs.pps.Pps.new.Goals as goal

pub returns : goal.returns
returns c = search rules
