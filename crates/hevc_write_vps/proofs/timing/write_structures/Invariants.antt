use Rattle.hevc_tables.specs.VpsTable.{structure}
use Rattle.hevc_video_set.specs.Vps.{plain_vps}
use Rattle.hevc_write_elements.specs.Filling.{WritesTurns}
use Rattle.hevc_write_vps.specs.VpsParts.{SameStructures}
use Rattle.hevc_write_vps.proofs.timing.write_structures.Given as goal

abbrev pub invariant-loop-i : goal.invariant-loop-i
invariant-loop-i l = WritesTurns structure (SameStructures (plain_vps l.x)) l.i l.fn.w l.w
