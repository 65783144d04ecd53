use Rattle.hevc_tables.specs.SpsTable.{long_term_picture}
use Rattle.hevc_sequence_set.specs.Sps.{plain_sps}
use Rattle.hevc_write_elements.specs.Filling.{WritesTurns}
use Rattle.hevc_write_sps.specs.SpsParts.{same_pictures}
use Rattle.hevc_write_sps.proofs.pictures.write_long_term_pictures.Given as goal

abbrev pub invariant-loop-i : goal.invariant-loop-i
invariant-loop-i l = WritesTurns long_term_picture (same_pictures (plain_sps l.x)) l.i l.fn.w l.w
