use Rattle.std.proofs.Common.{◌≡◌, pos, ◌+◌, ◌-◌, get_or, arith, rules, w32, SFits}
use Rattle.std.proofs.lemmas.Int.{to_z-of_z}
use Rattle.hevc_short_term.proofs.Shifts.{backwards}
use Rattle.hevc_short_term.proofs.predicted_members.push_backwards.Goals as goal

pub loop-i-preserved : goal.loop-i-preserved
loop-i-preserved c =
    let shift : SFits w32 c.args.shift = c.ranges.shift in
    let difference : SFits w32 (get_or c.args.differences.now (c.loop-i.i - 1) (pos 0)) = search rules in
    let pushed = simp to_z-of_z at c.push_shifted.ensures.items in
    let here : (c.loop-i.i - 1) + 1 ≡ c.loop-i.i = omega arith in
    record {
      items = simp to_z-of_z
          (backwards c.args.shift c.args.differences.now c.args.flags.now (c.loop-i.i - 1) _ _ _ _ _
          (omega arith) (omega arith) (rw here (simp to_z-of_z at c.loop-i.invariant.items)) pushed);
      count = omega arith;
    }
