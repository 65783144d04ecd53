use Rattle.std.proofs.Common.{ℕ, List, subst, sym, ◌∙◌, arith}
use Rattle.hevc_dpb.specs.Output.{AreAt, in_output_order}
use Rattle.hevc_dpb.proofs.PositionLaws.{positions_at, waiting_within}
use Rattle.hevc_dpb.proofs.output.append_in_order.Goals as goal

pub append_positions-requires-clause-within : goal.append_positions-requires-clause-within
append_positions-requires-clause-within g c k d lt = let n = c.args.entries.now.ok.0 in let l = waiting_within c.args.entries.now.items c.deref.result.now c.requires.distinct (c.deref.ensures.0 ∙ c.requires.ordered) k d lt in omega (arith, l, n)

pub returns : goal.returns
returns g c = c.append_positions.ensures (in_output_order c.args.entries.now.items) (subst (λ (l : List ℕ). AreAt c.args.entries.now.items l (in_output_order c.args.entries.now.items)) (sym (c.deref.ensures.0 ∙ c.requires.ordered)) (positions_at c.args.entries.now.items c.requires.distinct))
