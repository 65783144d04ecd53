use Rattle.std.proofs.Common.{arith}
use Rattle.hevc_sequence_set.specs.Sps.{plain_sps}
use Rattle.hevc_picture_slice.specs.SliceHeader.{plain_slice_header}
use Rattle.hevc_write_elements.proofs.Loops.{no_turns, one_more_turn}
use Rattle.hevc_write_slice_header.proofs.HeaderKeeps.{pictures_written}
use Rattle.hevc_write_slice_header.proofs.long_term.write_long_term_pictures.Goals as goal

pub loop-i-init : goal.loop-i-init
loop-i-init c = no_turns _ _ _

pub loop-i-preserved : goal.loop-i-preserved
loop-i-preserved c = one_more_turn _ _ c.loop-i.invariant c.in_ok-write_long_term_picture.ensures

pub returns : goal.returns
returns c = pictures_written (plain_sps c.args.sps.now)
    (plain_slice_header c.args.x.now) c.loop-i.i c.loop-i.invariant (omega (arith, c.from.ensures, c.from-2.ensures))
