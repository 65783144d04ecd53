use Rattle.std.proofs.Common.{arith, sym, ◌∙◌}
use Rattle.std.proofs.lemmas.Grind.{get_or_default_zero}
use Rattle.hevc_io.proofs.fault_plan.is_planned.Goals as goal

-- no number in the list is 2^64
pub returns-in-None : goal.returns-in-None
returns-in-None c = (
  λ e. absurd (cc e),
  λ h. absurd (c.in-None.ensures
      (let e = sym (get_or_default_zero _ _ _ h.1) ∙ h.2 in omega (arith, c.type_inv.failing h.0, e))),
)
