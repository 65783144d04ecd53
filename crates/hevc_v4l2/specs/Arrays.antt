-- Arrays of a control.
use Rattle.std.specs.Prelude.{ℕ, ℤ, pos, negsuc, ◌-◌, ◌&&◌, Bool, nat_le, int_le, List, [], ◌∷◌}
use Rattle.std.specs.Prelude.{◌++◌, length, replicate}

-- 0 to 255
abbrev pub is_byte : ℕ → Bool
is_byte n = nat_le n 255

-- -128 to 127
abbrev pub is_signed_byte : ℤ → Bool
is_signed_byte n = int_le (negsuc 127) n && int_le n (pos 127)

-- sixteen places, of which those that are left hold the last value
abbrev pub padded : {X : Type 0} → X → List X → List X
padded last items = items ++ replicate (16 - length items) last

abbrev pub no_pair : List ℤ
no_pair = pos 0 ∷ pos 0 ∷ []
