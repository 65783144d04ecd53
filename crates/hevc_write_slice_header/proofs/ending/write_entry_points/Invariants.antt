use Rattle.std.proofs.Common.{◌+◌}
use Rattle.hevc_tables.specs.SliceHeaderTable.{entry_point}
use Rattle.hevc_write_elements.specs.Filling.{WritesTurns, are_first}
use Rattle.hevc_write_slice_header.proofs.ending.write_entry_points.Given as goal

abbrev pub invariant-loop-i : goal.invariant-loop-i
invariant-loop-i l = WritesTurns (entry_point (l.num_bits_minus1 + 1)) (are_first l.offsets) l.i l.fn.w l.w
