-- Decimal digits; 48 is the code of 0.
use Rattle.std.specs.Prelude.{ℕ, ◌+◌, ◌/◌, ◌%◌, List, [], ◌∷◌, ◌++◌}

-- the two digits of a number below 100
abbrev pub two_digits : ℕ → List ℕ
two_digits number = (48 + number / 10) ∷ (48 + number % 10) ∷ []

-- the four digits of a number below 10,000
abbrev pub four_digits : ℕ → List ℕ
four_digits number = two_digits (number / 100) ++ two_digits (number % 100)
