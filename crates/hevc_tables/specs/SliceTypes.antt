-- Slices by their slice_type (7.4.7.1, Table 7-7).
use Rattle.std.specs.Prelude.{ℕ, Bool, ◌==◌}

-- B: of two reference picture lists
abbrev pub is_b : ℕ → Bool
is_b slice_type = slice_type == 0

-- P: of one list
abbrev pub is_p : ℕ → Bool
is_p slice_type = slice_type == 1

-- I: of none
abbrev pub is_i : ℕ → Bool
is_i slice_type = slice_type == 2
