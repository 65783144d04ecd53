use Rattle.std.proofs.Common.{◌≡◌, take}
use Rattle.hevc_picture_slice.proofs.modification_copy.copy_list.Given as goal

abbrev pub invariant-loop-entry : goal.invariant-loop-entry
invariant-loop-entry l = l.to.items ≡ take l.entry-index l.entry-items
