use Rattle.hevc_tables.specs.SpsTable.{own_ordering}
use Rattle.hevc_sequence_set.specs.Sps.{plain_sps}
use Rattle.hevc_write_elements.specs.Filling.{WritesTurns}
use Rattle.hevc_write_sps.specs.SpsParts.{same_orderings}
use Rattle.hevc_write_sps.proofs.orderings.write_own_orderings.Given as goal

abbrev pub invariant-loop-i : goal.invariant-loop-i
invariant-loop-i l = WritesTurns own_ordering (same_orderings (plain_sps l.x)) l.i l.fn.w l.w
