-- Numbers and lists that are few.
use Rattle.std.proofs.Common.{◌≡◌, ℕ, zero, suc, ◌<◌, ◌≤◌, [], ◌++◌, take, inl, inr, arith}
use Rattle.hevc_fault_counts.specs.Faults.{Rose}
use Rattle.hevc_tools_examples.specs.Runs.{IsDone, two_bytes}

-- less than both bytes aren't both
pub not_less : (n : ℕ) → n < 2 → two_bytes ≡ [] ++ take n two_bytes → ⊥
not_less zero few e = cc e
not_less (suc zero) few e = cc e
not_less (suc (suc n)) few e = absurd (omega (arith, few))

-- no status from 6 on is that of a run that is done
pub not_done : (status : ℕ) → 6 ≤ status → IsDone status → ⊥
not_done status high done = elim done [ inl few ↦ omega (arith, high, few) | inr is ↦ omega (arith, high, is) ]

-- no call failed
pub not_risen : Rose 0 0 → ⊥
not_risen rose = grind arith
