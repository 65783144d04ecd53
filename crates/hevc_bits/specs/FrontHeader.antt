-- What a header has to do with the bytes that it is read from.
use Rattle.std.specs.Prelude.{◌≡◌, ℕ, ◌≤◌, Bool, List, Result, Ok, length, take, if◌then◌else◌}
use Rattle.hevc_bits.specs.declared.header.UnitError.{UnitError}

-- All bytes with the same first `len` give the same header.
pub record IsReadFromFront {H : Type 0} (parsed : List ℕ → Result H UnitError) (bytes : List ℕ)
    (header : H) (len : ℕ) : Type 0 where
  pub fits : len ≤ length bytes
  pub same : (others : List ℕ) → take len others ≡ take len bytes → parsed others ≡ Ok header

-- an end unit's own bytes are those of its header, and any other's are all
abbrev pub own_bytes : Bool → ℕ → List ℕ → List ℕ
own_bytes ends len bytes = if ends then take len bytes else bytes
