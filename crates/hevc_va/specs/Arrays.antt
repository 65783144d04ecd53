-- Arrays of a buffer.
use Rattle.std.specs.Prelude.{ℕ, ◌-◌, Bool, nat_le, List, ◌++◌, length, replicate}

-- 0 to 65535
abbrev pub is_16_bits : ℕ → Bool
is_16_bits n = nat_le n 65535

-- so many places, of which those that are left hold the last value
abbrev pub in_places : {X : Type 0} → ℕ → X → List X → List X
in_places count last items = items ++ replicate (count - length items) last
