-- Which rows the tables have, by their numbers in docs/TABLES.md.
use Rattle.std.specs.Prelude.{ℕ, Bool, List, [], ◌∷◌, nat_le, ◌==◌, ◌&&◌, not, slice_index_or}

-- how many rows tables 0 to 16 have, those between the parts of table 2 counted too
abbrev pub counts : List ℕ
counts =
    1 ∷ 25 ∷ 31 ∷ 16 ∷ 3 ∷ 50 ∷ 4 ∷ 12 ∷ 26 ∷ 1 ∷ 8 ∷ 35 ∷ 7 ∷ 11 ∷ 53 ∷ 4 ∷ 14 ∷ []

-- a row of a table of so many, which begin with 1
abbrev pub is_among : ℕ → ℕ → Bool
is_among count row = nat_le 1 row && nat_le row count

-- table 2 has no rows 16 to 26
abbrev pub is_gap : ℕ → ℕ → Bool
is_gap table row = table == 2 && (nat_le 16 row && nat_le row 26)

-- the tables have this row
abbrev pub is_row : ℕ → ℕ → Bool
is_row table row = is_among (slice_index_or counts table 0) row && not (is_gap table row)
