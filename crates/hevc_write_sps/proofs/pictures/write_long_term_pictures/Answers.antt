use Rattle.std.proofs.Common.{arith}
use Rattle.hevc_sequence_set.specs.Sps.{plain_sps}
use Rattle.hevc_write_sps.proofs.SpsKeeps.{pictures_written}
use Rattle.hevc_write_sps.proofs.pictures.write_long_term_pictures.Goals as goal

pub returns : goal.returns
returns c = pictures_written (plain_sps c.args.x.now) c.loop-i.i c.loop-i.invariant
    (omega (arith, c.from-i-end.ensures))
