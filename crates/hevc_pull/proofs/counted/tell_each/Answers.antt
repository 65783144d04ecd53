use Rattle.std.proofs.Common.{◌<◌, ◌∙◌, ap, arith, length, set, slice_index_or}
use Rattle.std.proofs.lemmas.List.{get_or_default}
use Rattle.std.proofs.lemmas.List.Edits.{map_over_more}
use Rattle.hevc_pull.specs.Counting.{counted_with, told_if_own}
use Rattle.hevc_pull.proofs.counted.tell_each.Goals as goal

pub loop-one-preserved : goal.loop-one-preserved
loop-one-preserved c =
    let none = counted_with 0 0 in
    let one = slice_index_or c.loop-one.counted c.loop-one.one-index none in
    let inside : c.loop-one.one-index < length c.loop-one.counted =
    omega (arith, c.loop-one-test.true, c.loop-one.auto.counted) in
    ap (set c.loop-one.counted c.loop-one.one-index) c.tell_if_own.ensures
    ∙ map_over_more (told_if_own c.args.event.now) c.args.counted.now c.loop-one.counted c.loop-one.one-index one
    c.loop-one-test.true c.loop-one.invariant
    (get_or_default c.loop-one.counted c.loop-one.one-index none one inside)
