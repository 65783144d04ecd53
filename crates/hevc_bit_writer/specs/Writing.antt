-- How an element is written in bits (7.2, 9.2), and bits that are written one after another.
use Rattle.std.specs.Prelude.{◌≡◌, ℕ, ℤ, pos, negsuc, zero, suc, ◌+◌, ◌-◌, ◌*◌, ◌%◌, ◌^◌, ◌<◌}
use Rattle.std.specs.Prelude.{nat_le, Bool, true, false, List, [], ◌∷◌, ◌++◌, take, replicate}
use Rattle.std.specs.Prelude.{if◌then◌else◌}
use Rattle.hevc_spec.specs.Bits.{Form, u, ue, se, skip, check, number}
use Rattle.hevc_spec.specs.Payload.{low_bits}

-- the greatest exponent up to a bound whose power of two isn't above a number
abbrev pub exponent_within : ℕ → ℕ → ℕ
exponent_within zero n = 0
exponent_within (suc most) n = if nat_le (2 ^ suc most) n then suc most else exponent_within most n

-- leadingZeroBits (9.2): how many bits come after the first one of codeNum plus 1
unfoldable pub leading_zero_bits : ℕ → ℕ
leading_zero_bits value = exponent_within 31 (value + 1)

-- The bits of an element. An Exp-Golomb number (9.2) is codeNum plus 1 with as many zeros before
-- its first one as bits come after that.
abbrev pub spelled : Form → ℕ → List Bool
spelled (u n) value = low_bits n value
spelled ue value = low_bits (2 * leading_zero_bits value + 1) (value + 1)
spelled se value = low_bits (2 * leading_zero_bits value + 1) (value + 1)
spelled (skip n) value = low_bits n value
spelled check value = []

-- the values that a form has bits for
abbrev pub CanSpell : Form → ℕ → Type 0
CanSpell (u n) value = value < 2 ^ n
CanSpell ue value = value + 1 < 2 ^ 32
CanSpell se value = value + 1 < 2 ^ 32
CanSpell (skip n) value = value < 2 ^ n
CanSpell check value = value ≡ 0

-- codeNum of a signed number (table 9-3)
abbrev pub code_number : ℤ → ℕ
code_number (pos n) = 2 * n - 1
code_number (negsuc n) = 2 * (n + 1)

-- rbsp_trailing_bits (7.3.2.11), or byte_alignment (7.3.2.12), after so many bits: a one, and
-- zeros up to the end of its byte
abbrev pub trailing_bits : ℕ → List Bool
trailing_bits count = true ∷ replicate (7 - count % 8) false

-- the bytes that bits fill, eight each
abbrev pub packed : List Bool → List ℕ
packed (a ∷ b ∷ c ∷ d ∷ e ∷ f ∷ g ∷ h ∷ bits) =
    number (a ∷ b ∷ c ∷ d ∷ e ∷ f ∷ g ∷ h ∷ []) ∷ packed bits
packed bits = []

-- bits grew by some first ones of others
abbrev pub GrewByFirst : List Bool → List Bool → List Bool → Type 0
GrewByFirst old new bits = (n : ℕ) × (new ≡ old ++ take n bits)
