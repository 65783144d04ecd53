-- Lists of differences in order.
use Rattle.std.specs.Prelude.{ℤ, ◌<ℤ◌, List, [], ◌∷◌}

-- each lies above the bound
abbrev pub AllAbove : ℤ → List ℤ → Type 0
AllAbove bound [] = Unit {0}
AllAbove bound (d ∷ ds) = (bound <ℤ d) × AllAbove bound ds

-- each lies below the bound
abbrev pub AllBelow : ℤ → List ℤ → Type 0
AllBelow bound [] = Unit {0}
AllBelow bound (d ∷ ds) = (d <ℤ bound) × AllBelow bound ds

-- each lies below all after it
abbrev pub Rises : List ℤ → Type 0
Rises [] = Unit {0}
Rises (d ∷ ds) = AllAbove d ds × Rises ds

-- each lies above all after it
abbrev pub Falls : List ℤ → Type 0
Falls [] = Unit {0}
Falls (d ∷ ds) = AllBelow d ds × Falls ds
