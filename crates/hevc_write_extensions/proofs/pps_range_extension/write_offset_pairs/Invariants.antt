use Rattle.hevc_tables.specs.PpsRangeExtensionTable.{offset_pair}
use Rattle.hevc_set_parts.specs.PpsRangeExtension.{plain_pps_range_extension}
use Rattle.hevc_write_extensions.specs.PpsRangeExtensionParts.{same_pairs}
use Rattle.hevc_write_elements.specs.Filling.{WritesTurns}
use Rattle.hevc_write_extensions.proofs.pps_range_extension.write_offset_pairs.Given as goal

abbrev pub invariant-loop-i : goal.invariant-loop-i
invariant-loop-i l = WritesTurns offset_pair (same_pairs (plain_pps_range_extension l.x)) l.i l.fn.w l.w
