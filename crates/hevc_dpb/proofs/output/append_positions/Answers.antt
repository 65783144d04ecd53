use Rattle.std.proofs.Common.{arith, ◌∙◌}
use Rattle.hevc_dpb.proofs.PositionLaws.{at_get, at_length, appended_more}
use Rattle.hevc_dpb.proofs.output.append_positions.Goals as goal

pub loop-place-preserved : goal.loop-place-preserved
loop-place-preserved g c = record { room = omega arith; appended = λ fs at. appended_more _ _ _ fs c.loop-place.place-index c.index.result.now (let n = at_length c.args.entries.now.items c.args.places.now fs at in omega (arith, n)) (c.index.ensures ∙ at_get c.args.entries.now.items c.args.places.now fs c.loop-place.place-index c.index.result.now at c.loop-place-test.true) (c.loop-place.invariant.appended fs at) c.push_reserved.ensures.items }
