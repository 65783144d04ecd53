use Rattle.hevc_tables.specs.SliceHeaderTable.{long_term_picture}
use Rattle.hevc_sequence_set.specs.Sps.{plain_sps}
use Rattle.hevc_picture_slice.specs.SliceHeader.{plain_slice_header}
use Rattle.hevc_write_elements.specs.Filling.{WritesTurns}
use Rattle.hevc_write_slice_header.specs.HeaderParts.{SameLongTerm}
use Rattle.hevc_write_slice_header.proofs.long_term.write_long_term_pictures.Given as goal

abbrev pub invariant-loop-i : goal.invariant-loop-i
invariant-loop-i l =
    WritesTurns (long_term_picture (plain_sps l.sps)) (SameLongTerm (plain_slice_header l.x)) l.i l.fn.w l.w
