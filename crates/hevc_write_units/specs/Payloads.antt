-- The payload of a unit as the lines of a value, and the bytes after them (7.3.1.1).
use Rattle.std.specs.Prelude.{◌≡◌, ◌≤◌, ℕ, Bool, List, ◌++◌, length}
use Rattle.hevc_spec.specs.Lines.{Line, joined}
use Rattle.hevc_spec.specs.Units.{without_trailing_zeros}
use Rattle.hevc_bit_writer.specs.Writing.{packed, trailing_bits}
use Rattle.hevc_write_elements.specs.Choices.{AreChosen, set_flags}

-- bits, with a one and zeros up to a whole byte (7.3.2.11, 7.3.2.12)
abbrev pub with_trailing_bits : List Bool → List Bool
with_trailing_bits bits = bits ++ trailing_bits (length bits)

-- The payload bytes are lines of the value, with the values that are written for what it doesn't
-- keep, up to a whole byte, and then its body.
pub record IsPayload (HasLines : List Line → Type 0) (body payload : List ℕ) : Type 0 where
  pub lines : List Line
  pub has : HasLines lines
  pub chosen : AreChosen lines
  -- a difference of another set whose sum isn't a member has no flag set in row 5 of table 7
  pub fewest : (others : List Line) → HasLines others → set_flags lines ≤ set_flags others
  pub parts : payload ≡ packed (with_trailing_bits (joined lines)) ++ body

-- bytes grew by such a payload
pub record AddsPayload (HasLines : List Line → Type 0) (body old new : List ℕ) : Type 0 where
  pub payload : List ℕ
  pub parts : new ≡ old ++ payload
  pub is_payload : IsPayload HasLines body payload

-- bytes aren't empty and end in 00
abbrev pub EndsInZero : List ℕ → Type 0
EndsInZero bytes = ¬ (without_trailing_zeros bytes ≡ bytes)
