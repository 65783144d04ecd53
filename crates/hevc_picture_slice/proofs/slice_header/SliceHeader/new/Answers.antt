use Rattle.std.proofs.Common.{rules}
use Rattle.hevc_picture_slice.proofs.slice_header.SliceHeader.new.Goals as goal

pub invariant_of-result : goal.invariant_of-result
invariant_of-result c = search rules
