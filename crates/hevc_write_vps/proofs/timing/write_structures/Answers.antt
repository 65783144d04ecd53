use Rattle.std.proofs.Common.{length, ap, arith}
use Rattle.std.proofs.lemmas.List.{length-map}
use Rattle.hevc_video_set.specs.Vps.{plain_vps}
use Rattle.hevc_video_set.specs.HrdParams.{plain_hrd_params}
use Rattle.hevc_write_vps.proofs.VpsKeeps.{structures_written}
use Rattle.hevc_write_elements.proofs.Loops.{no_turns, one_more_turn}
use Rattle.hevc_write_vps.proofs.timing.write_structures.Goals as goal

pub loop-i-init : goal.loop-i-init
loop-i-init c = no_turns _ _ _

pub loop-i-preserved : goal.loop-i-preserved
loop-i-preserved c = one_more_turn _ _ c.loop-i.invariant c.in_ok-write_structure.ensures

pub returns : goal.returns
returns c = structures_written (plain_vps c.args.x.now) c.loop-i.i c.loop-i.invariant
    (rw (length-map c.args.x.now.hrd_parameters plain_hrd_params) (omega (arith, ap length c.as_slice-i-end.ensures)))
