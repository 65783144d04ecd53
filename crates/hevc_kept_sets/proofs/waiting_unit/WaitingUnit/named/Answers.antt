use Rattle.std.proofs.Common.{◌<◌, ℕ, Option, drop, subst, sym}
use Rattle.std.specs.Prelude.{IfSome}
use Rattle.hevc_kept_sets.proofs.Named.{named_id}
use Rattle.hevc_kept_sets.proofs.waiting_unit.WaitingUnit.named.Goals as goal

pub returns-clause-bound : goal.returns-clause-bound
returns-clause-bound c = subst (λ (o : Option ℕ). IfSome o (λ id. id < 16)) (sym c.self.invariant.1)
    (named_id (drop 3 c.self.inside.stream.items))
