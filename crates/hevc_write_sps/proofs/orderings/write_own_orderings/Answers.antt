use Rattle.std.proofs.Common.{arith}
use Rattle.hevc_sequence_set.specs.Sps.{plain_sps}
use Rattle.hevc_write_sps.proofs.SpsKeeps.{orderings_written}
use Rattle.hevc_write_sps.proofs.orderings.write_own_orderings.Goals as goal

pub returns : goal.returns
returns c = orderings_written (plain_sps c.args.x.now) c.loop-i.i c.loop-i.invariant
    (omega (arith, c.from-i-end.ensures))
