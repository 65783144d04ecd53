use Rattle.std.proofs.Common.{rules}
use denote.Struct.Cover.{Cover-one}
use Rattle.hevc_picture_slice.specs.contracts.slice_header.SliceHeader.{the_type}
use Rattle.hevc_picture_slice.proofs.slice_header.SliceHeader.try_clone.Goals as goal

-- field by field: the modification and the entry points are equal copies, the other fields are read as they are
pub returns : goal.returns
returns c = Cover-one the_type.cover the_type.propositions _ _
    (rw c.modification_copy.ensures (rw c.in_ok-entry_point_offset_minus1.ensures (search rules)))
