-- How an element is spelled in bits (7.2, 9.2), and what is at the front of bits.
use Rattle.std.specs.Prelude.{◌≡◌, ℕ, suc, ◌+◌, ◌-◌, ◌*◌, ◌≤◌, Bool, true, false, List, [], ◌∷◌}
use Rattle.std.specs.Prelude.{◌++◌, length, replicate, take, drop, nat_le, ◌&&◌, ◌==◌}
use Rattle.std.specs.Prelude.{if◌then◌else◌, ℤ, pos, neg_ℤ, int_le, ◌/◌, ◌%◌}

-- the number that bits spell after a number, the most significant bit first
abbrev pub number_after : ℕ → List Bool → ℕ
number_after n [] = n
number_after n (b ∷ bits) = number_after (2 * n + (if b then 1 else 0)) bits

-- the number that bits spell
abbrev pub number : List Bool → ℕ
number bits = number_after 0 bits

-- ---- spellings

-- How an element is written: u(n), ue(v), se(v), n bits that are not kept, or a condition,
-- which has no bits.
pub data Form : Type 0 where
  u : ℕ → Form
  ue : Form
  se : Form
  skip : ℕ → Form
  check : Form

-- An Exp-Golomb number (9.2): as many zeros as bits come after the first one, at most 31. The one
-- and those bits spell the value plus 1.
pub record IsExpGolomb (value : ℕ) (bits : List Bool) : Type 0 where
  pub rest : List Bool
  pub short : length rest ≤ 31
  pub parts : bits ≡ replicate (length rest) false ++ true ∷ rest
  pub value_is : value + 1 ≡ number (true ∷ rest)

-- The bits spell the value. That of `se` is the number that table 9-3 maps.
abbrev pub IsSpelled : Form → ℕ → List Bool → Type 0
IsSpelled (u n) value bits = (length bits ≡ n) × (number bits ≡ value)
IsSpelled ue value bits = IsExpGolomb value bits
IsSpelled se value bits = IsExpGolomb value bits
IsSpelled (skip n) value bits = (length bits ≡ n) × (number bits ≡ value)
IsSpelled check value bits = (bits ≡ []) × (value ≡ 0)

-- bits that spell the value are at the front, before the rest
pub record IsAtFront (form : Form) (value : ℕ) (bits rest : List Bool) : Type 0 where
  pub front : List Bool
  pub spelled : IsSpelled form value front
  pub parts : bits ≡ front ++ rest

-- the signed number of an Exp-Golomb number (table 9-3)
abbrev pub signed : ℕ → ℤ
signed n = if n % 2 == 1 then pos (n / 2 + 1) else neg_ℤ (pos (n / 2))

-- ---- reading

-- What is at the front of bits: a value and the bits after it, a value out of bounds,
-- or too few bits.
pub data Found : Type 0 where
  found : ℕ → List Bool → Found
  out_of_bounds : Found
  ended : Found

-- the number of the next n bits after a number
unfoldable pub bits_after : ℕ → ℕ → List Bool → Found
bits_after front n bits =
    if nat_le n (length bits) then found (number_after front (take n bits)) (drop n bits) else ended

-- u(n): the number of the next n bits
unfoldable pub bits_at : ℕ → List Bool → Found
bits_at n bits = bits_after 0 n bits

-- how many zeros are before the first one
abbrev pub leading_zeros : List Bool → ℕ
leading_zeros [] = 0
leading_zeros (true ∷ bits) = 0
leading_zeros (false ∷ bits) = suc (leading_zeros bits)

abbrev pub less_one : Found → Found
less_one (found v rest) = found (v - 1) rest
less_one out_of_bounds = out_of_bounds
less_one ended = ended

-- An Exp-Golomb number (9.2): leadingZeroBits zeros, a one, and as many bits; the one and they
-- spell codeNum plus 1. 32 zeros are out of bounds, whatever follows.
unfoldable pub golomb_at : List Bool → Found
golomb_at bits =
    let zeros = leading_zeros bits in
    if nat_le 32 zeros then out_of_bounds else less_one (bits_at (zeros + 1) (drop zeros bits))

-- a value in its bounds, and any other out of bounds
abbrev pub within : (ℕ → Bool) → Found → Found
within allowed (found v rest) = if allowed v then found v rest else out_of_bounds
within allowed out_of_bounds = out_of_bounds
within allowed ended = ended

abbrev pub in_range : ℕ → ℕ → ℕ → Bool
in_range min max v = nat_le min v && nat_le v max

-- ue(v): values above 2147483647 are out of bounds
unfoldable pub ue_at : List Bool → Found
ue_at bits = within (in_range 0 2147483647) (golomb_at bits)

-- se(v): the signed number is in its bounds, of an Exp-Golomb number that is read
abbrev pub in_signed_range : ℤ → ℤ → ℕ → Bool
in_signed_range min max n = nat_le n 2147483647 && int_le min (signed n) && int_le (signed n) max

-- what is found there for a form
abbrev pub form_at : Form → List Bool → Found
form_at (u n) bits = bits_at n bits
form_at ue bits = golomb_at bits
form_at se bits = golomb_at bits
form_at (skip n) bits = bits_at n bits
form_at check bits = found 0 bits
