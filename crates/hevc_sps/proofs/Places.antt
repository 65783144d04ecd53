-- Bounds on the numbers of sub-layers, and lists that grow.
use Rattle.std.proofs.Common.{ℕ, zero, suc, ◌+◌, ◌-◌, ◌≤◌, List, ◌++◌, replicate, rules, arith}
use Rattle.std.proofs.lemmas.List.{map-append, length-append, length-map}
use Rattle.hevc_records.specs.Bounds.{AtMost, AtMostEach}
use Rattle.hevc_records.proofs.BoundLemmas.{AtMost-at, AtMost-set, AtMostEach-set}
use Rattle.hevc_tables.specs.VpsTable.{up_to_highest}

pub ruleset places = (AtMost-set, AtMostEach-set)

pub ruleset bounds = (AtMost-at)

pub ruleset appended = (map-append, length-append, length-map)

zeros_at_most : (bound k : ℕ) → AtMost bound (replicate k 0)
zeros_at_most bound zero = search rules
zeros_at_most bound (suc k) = grind (arith, zeros_at_most bound k)

pub AtMost-up_to : (bound top n : ℕ) → n ≤ bound → AtMost bound (up_to_highest top n)
AtMost-up_to bound top n le = all (top + 1)
  where
    all : (k : ℕ) → AtMost bound (replicate k n ++ replicate (6 - top) 0)
    all zero = zeros_at_most bound (6 - top)
    all (suc k) = grind (arith, le, all k)

zeros_at_most_each : (k : ℕ) → AtMostEach (replicate k 0) (replicate k 0)
zeros_at_most_each zero = search rules
zeros_at_most_each (suc k) = grind (arith, zeros_at_most_each k)

pub AtMostEach-up_to : (top b n : ℕ) → n ≤ b → AtMostEach (up_to_highest top b) (up_to_highest top n)
AtMostEach-up_to top b n le = all (top + 1)
  where
    all : (k : ℕ) → AtMostEach (replicate k b ++ replicate (6 - top) 0) (replicate k n ++ replicate (6 - top) 0)
    all zero = zeros_at_most_each (6 - top)
    all (suc k) = grind (arith, le, all k)

pub ruleset common = (AtMost-up_to, AtMostEach-up_to)
