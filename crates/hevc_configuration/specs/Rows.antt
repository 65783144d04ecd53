-- A table of rows: fields side by side in whole bytes, and bytes as they are.
use Rattle.std.specs.Prelude.{◌≡◌, ℕ, ◌+◌, ◌-◌, ◌*◌, ◌/◌, ◌%◌, ◌^◌, ◌≤◌, List, [], ◌∷◌, ◌++◌}
use Rattle.std.specs.Prelude.{length, take, drop, slice_index}
use Rattle.std.specs.Int.{w16, w32, to_be_bytes, from_be_bytes}

-- so many bits: a field and its value, or reserved bits, which are written as ones or as zeros
pub data Bits : Type 0 where
  field : ℕ → ℕ → Bits
  ones : ℕ → Bits
  zeros : ℕ → Bits

abbrev pub width : Bits → ℕ
width (field bits value) = bits
width (ones bits) = bits
width (zeros bits) = bits

abbrev pub total_width : List Bits → ℕ
total_width [] = 0
total_width (b ∷ bs) = width b + total_width bs

-- what is written for them
abbrev pub written_value : Bits → ℕ
written_value (field bits value) = value
written_value (ones bits) = 2 ^ bits - 1
written_value (zeros bits) = 0

-- the number whose bits they are, the first ones the highest
abbrev pub number_of : List Bits → ℕ
number_of [] = 0
number_of (b ∷ []) = written_value b
number_of (b ∷ c ∷ bs) = written_value b * 2 ^ total_width (c ∷ bs) + number_of (c ∷ bs)

-- a number has these fields; its reserved bits may be any
abbrev pub HasFields : List Bits → ℕ → Type 0
HasFields [] n = Unit {0}
HasFields (field bits value ∷ bs) n = (n / 2 ^ total_width bs % 2 ^ bits ≡ value) × HasFields bs n
HasFields (ones bits ∷ bs) n = HasFields bs n
HasFields (zeros bits ∷ bs) n = HasFields bs n

-- A row: fields in one, two or four bytes, the highest first, or bytes as they are.
pub data Row : Type 0 where
  byte : List Bits → Row
  two_bytes : List Bits → Row
  four_bytes : List Bits → Row
  text : List ℕ → Row

abbrev pub size_of : Row → ℕ
size_of (byte bs) = 1
size_of (two_bytes bs) = 2
size_of (four_bytes bs) = 4
size_of (text own) = length own

-- the bytes that are written for a row
abbrev pub row_bytes : Row → List ℕ
row_bytes (byte bs) = number_of bs ∷ []
row_bytes (two_bytes bs) = to_be_bytes w16 (number_of bs)
row_bytes (four_bytes bs) = to_be_bytes w32 (number_of bs)
row_bytes (text own) = own

abbrev pub bytes_of_rows : List Row → List ℕ
bytes_of_rows [] = []
bytes_of_rows (row ∷ rows) = row_bytes row ++ bytes_of_rows rows

-- bytes begin with a row
abbrev pub BeginsWith : Row → List ℕ → Type 0
BeginsWith (byte bs) bytes = (1 ≤ length bytes) × HasFields bs (slice_index bytes 0)
BeginsWith (two_bytes bs) bytes = (2 ≤ length bytes) × HasFields bs (from_be_bytes w16 bytes)
BeginsWith (four_bytes bs) bytes = (4 ≤ length bytes) × HasFields bs (from_be_bytes w32 bytes)
BeginsWith (text own) bytes = take (length own) bytes ≡ own

-- bytes begin with these rows, one after another; others may follow
abbrev pub AreRows : List Row → List ℕ → Type 0
AreRows [] bytes = Unit {0}
AreRows (row ∷ rows) bytes = BeginsWith row bytes × AreRows rows (drop (size_of row) bytes)
