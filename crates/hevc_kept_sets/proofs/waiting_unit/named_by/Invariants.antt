use Rattle.std.proofs.Common.{◌≡◌, ℕ, map}
use Rattle.hevc_kept_sets.specs.Settled.{has_id, is_named_by}
use Rattle.hevc_kept_sets.proofs.waiting_unit.named_by.Given as goal

-- the ids that the units so far name
abbrev pub invariant-loop-unit : goal.invariant-loop-unit
invariant-loop-unit l = (k : ℕ) → has_id l.ids k ≡ is_named_by (map (λ unit. unit.now) l.yielded) k
