use Rattle.hevc_tables.specs.VpsTable.{own_ordering}
use Rattle.hevc_video_set.specs.Vps.{plain_vps}
use Rattle.hevc_write_elements.specs.Filling.{WritesTurns}
use Rattle.hevc_write_vps.specs.VpsParts.{same_orderings}
use Rattle.hevc_write_vps.proofs.orderings.write_own_orderings.Given as goal

abbrev pub invariant-loop-i : goal.invariant-loop-i
invariant-loop-i l = WritesTurns own_ordering (same_orderings (plain_vps l.x)) l.i l.fn.w l.w
