-- Bounds on each number of a list: at an index, and through a write.
use Rattle.std.proofs.Common.{ℕ, ◌<◌, ◌≤◌, ℤ, ◌≤ℤ◌, Bool, ◌&&◌, zero, suc, List, [], ◌∷◌, length}
use Rattle.std.proofs.Common.{slice_index_or, slice_set, arith, rules, IsTrue, sym}
use Rattle.std.specs.Prelude.{nat_le, int_le}
use Rattle.std.specs.List.{list_all}
use mathlib.Core.Bool.{true≢false}
use Rattle.std.proofs.lemmas.Grind.{common_steps}
use Rattle.std.proofs.lemmas.List.Sums.{AllPass-from_list_all, list_all-from_AllPass}
use Rattle.hevc_records.specs.Bounds.{AtMost, AtMostEach, Within}

-- a test that all elements pass, they pass after the write of one that passes
pub list_all-set : {X : Type 0} (p : X → Bool) (xs : List X) (i : ℕ) (x : X) → IsTrue (list_all p xs)
    → IsTrue (p x) → IsTrue (list_all p (slice_set xs i x))
list_all-set p xs i x h passes =
    list_all-from_AllPass p (slice_set xs i x)
    (λ k d below. grind (arith, common_steps, passes, AllPass-from_list_all p xs h k d))

pub AtMost-at : (bound : ℕ) (xs : List ℕ) (k d : ℕ) → AtMost bound xs → k < length xs → slice_index_or xs k d ≤ bound
AtMost-at bound xs k d h below = grind (arith, AllPass-from_list_all (λ n. nat_le n bound) xs h k d below)

pub AtMost-set : (bound : ℕ) (xs : List ℕ) (i v : ℕ) → AtMost bound xs → v ≤ bound → AtMost bound (slice_set xs i v)
AtMost-set bound xs i v h le = list_all-set (λ n. nat_le n bound) xs i v h (search (rules, le))

pub AtMostEach-at : (bounds numbers : List ℕ) (k d : ℕ) → AtMostEach bounds numbers
    → slice_index_or numbers k d ≤ slice_index_or bounds k d
AtMostEach-at [] [] k d h = search (rules)
AtMostEach-at [] (n ∷ numbers) k d h = absurd (true≢false (sym h))
AtMostEach-at (b ∷ bounds) [] k d h = absurd (true≢false (sym h))
AtMostEach-at (b ∷ bounds) (n ∷ numbers) zero d h = grind (arith, h)
AtMostEach-at (b ∷ bounds) (n ∷ numbers) (suc k) d h = AtMostEach-at bounds numbers k d (search (rules, h))

-- both lists change at one place
pub AtMostEach-set : (bounds numbers : List ℕ) (i b n : ℕ) → AtMostEach bounds numbers → n ≤ b
    → AtMostEach (slice_set bounds i b) (slice_set numbers i n)
AtMostEach-set [] [] i b n h le = h
AtMostEach-set [] (y ∷ numbers) i b n h le = absurd (true≢false (sym h))
AtMostEach-set (x ∷ bounds) [] i b n h le = absurd (true≢false (sym h))
AtMostEach-set (x ∷ bounds) (y ∷ numbers) zero b n h le = search (rules, h, le)
AtMostEach-set (x ∷ bounds) (y ∷ numbers) (suc i) b n h le =
    search (rules, h, AtMostEach-set bounds numbers i b n (search (rules, h)) le)

pub Within-at : (low high : ℤ) (xs : List ℤ) (k : ℕ) (d : ℤ) → Within low high xs → k < length xs
    → (low ≤ℤ slice_index_or xs k d) × (slice_index_or xs k d ≤ℤ high)
Within-at low high xs k d h below =
    grind (arith, AllPass-from_list_all (λ n. int_le low n && int_le n high) xs h k d below)

pub Within-set : (low high : ℤ) (xs : List ℤ) (i : ℕ) (v : ℤ) → Within low high xs → low ≤ℤ v → v ≤ℤ high
    → Within low high (slice_set xs i v)
Within-set low high xs i v h least most =
    list_all-set (λ n. int_le low n && int_le n high) xs i v h (grind (arith, least, most))
