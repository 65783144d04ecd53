use Rattle.std.proofs.Common.{arith}
use Rattle.hevc_video_set.specs.Vps.{plain_vps}
use Rattle.hevc_write_vps.proofs.VpsKeeps.{orderings_written}
use Rattle.hevc_write_vps.proofs.orderings.write_own_orderings.Goals as goal

pub returns : goal.returns
returns c = orderings_written (plain_vps c.args.x.now) c.loop-i.i c.loop-i.invariant
    (omega (arith, c.from-i-end.ensures))
