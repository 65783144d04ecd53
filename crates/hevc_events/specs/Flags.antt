-- Flags in one number.
use Rattle.std.specs.Prelude.{ℕ, ◌+◌, ◌*◌, Bool, List, [], ◌∷◌, if◌then◌else◌}

-- each flag at the bit of its place, the first at bit 0
abbrev pub flags_of : List Bool → ℕ
flags_of [] = 0
flags_of (flag ∷ flags) = (if flag then 1 else 0) + 2 * flags_of flags
