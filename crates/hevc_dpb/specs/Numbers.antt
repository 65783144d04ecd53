-- Numbers of pictures, each in one entry alone.
use Rattle.std.specs.Prelude.{◌≢◌, ℕ, ⊤, List, [], ◌∷◌}
use Rattle.std.specs.Coded.{×_prop, Unit-prop}
use Rattle.std.proofs.Math.Path.{fun_ext}

-- no number of the list is n
abbrev pub Absent : ℕ → List ℕ → Type 0
Absent n [] = ⊤
Absent n (m ∷ ms) = (m ≢ n) × Absent n ms

-- no number is there twice
abbrev pub Distinct : List ℕ → Type 0
Distinct [] = ⊤
Distinct (n ∷ ns) = Absent n ns × Distinct ns

pub Absent-prop : (n : ℕ) (ms : List ℕ) → IsProp (Absent n ms)
Absent-prop n [] = Unit-prop
Absent-prop n (m ∷ ms) = ×_prop (λ f g. fun_ext (λ e. absurd (f e))) (Absent-prop n ms)

pub Distinct-prop : (ns : List ℕ) → IsProp (Distinct ns)
Distinct-prop [] = Unit-prop
Distinct-prop (n ∷ ns) = ×_prop (Absent-prop n ns) (Distinct-prop ns)
