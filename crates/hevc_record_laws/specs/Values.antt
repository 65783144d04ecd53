-- Records of the code, and the values of their fields.
use Rattle.std.specs.Prelude.{◌≡◌}

-- where the values are the same, so is the record
abbrev pub IsItsValues : {X A : Type 0} → (X → A) → Type 0
IsItsValues {X} view = (x y : X) → view x ≡ view y → x ≡ y
