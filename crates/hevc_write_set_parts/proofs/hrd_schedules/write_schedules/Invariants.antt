use Rattle.hevc_tables.specs.HrdTable.{schedule}
use Rattle.hevc_video_set.specs.SublayerHrdParameters.{plain_sublayer_hrd_parameters}
use Rattle.hevc_write_set_parts.specs.HrdParts.{same_schedules}
use Rattle.hevc_write_elements.specs.Filling.{WritesTurns}
use Rattle.hevc_write_set_parts.proofs.hrd_schedules.write_schedules.Given as goal

abbrev pub invariant-loop-i : goal.invariant-loop-i
invariant-loop-i l =
    WritesTurns (schedule l.by_units) (same_schedules (plain_sublayer_hrd_parameters l.x)) l.i l.fn.w l.w
