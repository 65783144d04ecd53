use Rattle.std.specs.Prelude.{ℕ, ℤ, List, ◌&&◌, IsTrue, nat_le, int_le}
use Rattle.std.specs.List.{list_all}
use Rattle.std.specs.Cmp.Lexicographic.{pointwise}

-- no number is above the bound
abbrev pub AtMost : ℕ → List ℕ → Type 0
AtMost bound numbers = IsTrue (list_all (λ n. nat_le n bound) numbers)

-- each number is at most the bound at its place
abbrev pub AtMostEach : List ℕ → List ℕ → Type 0
AtMostEach bounds numbers = IsTrue (pointwise nat_le numbers bounds)

-- each number is one from `low` to `high`
abbrev pub Within : ℤ → ℤ → List ℤ → Type 0
Within low high numbers = IsTrue (list_all (λ n. int_le low n && int_le n high) numbers)
