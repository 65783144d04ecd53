use Rattle.std.proofs.Common.{pos, get_or, arith, rules, w32, SFits}
use Rattle.std.proofs.lemmas.Int.{to_z-of_z}
use Rattle.hevc_short_term.proofs.Shifts.{forwards}
use Rattle.hevc_short_term.proofs.predicted_members.push_forwards.Goals as goal

pub loop-i-preserved : goal.loop-i-preserved
loop-i-preserved c =
    let shift : SFits w32 c.args.shift = c.ranges.shift in
    let difference : SFits w32 (get_or c.args.differences.now c.loop-i.i (pos 0)) = search rules in
    let pushed = simp to_z-of_z at c.push_shifted.ensures.items in
    record {
      items = simp to_z-of_z
          (forwards c.args.shift c.args.differences.now c.args.flags.now c.loop-i.i _ _ _ _ _
          c.loop-i-test.true (omega arith) (simp to_z-of_z at c.loop-i.invariant.items) pushed);
      count = omega arith;
    }
