-- The up-right diagonal scan (6.5.3).
use Rattle.std.specs.Prelude.{ℕ, ◌+◌, ◌-◌, ◌*◌, List, [], ◌∷◌, map, filter, nat_lt, ◌&&◌}
use Rattle.std.specs.Prelude.{slice_index}
use Rattle.std.specs.List.{range_with_len, flat_map}

-- the places of a diagonal, on which column and row have this sum: those within the block, counted
-- row by row, from the lower left to the upper right
abbrev pub diagonal : (size sum : ℕ) → List ℕ
diagonal size sum =
    map (λ column. (sum - column) * size + column)
    (filter (λ column. nat_lt column size && nat_lt (sum - column) size)
    (range_with_len 0 (sum + 1)))

-- the places of a block of this size, in the order in which the scan comes by them (6.5.3)
abbrev pub up_right_diagonal : (size : ℕ) → List ℕ
up_right_diagonal size = flat_map (diagonal size) (range_with_len 0 (2 * size - 1))

-- where each entry of a 4x4 block, row by row, is on the scan
abbrev pub scan_places_4x4 : List ℕ
scan_places_4x4 =
    0 ∷ 2 ∷ 5 ∷ 9 ∷
    1 ∷ 4 ∷ 8 ∷ 12 ∷
    3 ∷ 7 ∷ 11 ∷ 14 ∷
    6 ∷ 10 ∷ 13 ∷ 15 ∷ []

-- where each entry of an 8x8 block, row by row, is on the scan
abbrev pub scan_places_8x8 : List ℕ
scan_places_8x8 =
    0 ∷ 2 ∷ 5 ∷ 9 ∷ 14 ∷ 20 ∷ 27 ∷ 35 ∷
    1 ∷ 4 ∷ 8 ∷ 13 ∷ 19 ∷ 26 ∷ 34 ∷ 42 ∷
    3 ∷ 7 ∷ 12 ∷ 18 ∷ 25 ∷ 33 ∷ 41 ∷ 48 ∷
    6 ∷ 11 ∷ 17 ∷ 24 ∷ 32 ∷ 40 ∷ 47 ∷ 53 ∷
    10 ∷ 16 ∷ 23 ∷ 31 ∷ 39 ∷ 46 ∷ 52 ∷ 57 ∷
    15 ∷ 22 ∷ 30 ∷ 38 ∷ 45 ∷ 51 ∷ 56 ∷ 60 ∷
    21 ∷ 29 ∷ 37 ∷ 44 ∷ 50 ∷ 55 ∷ 59 ∷ 62 ∷
    28 ∷ 36 ∷ 43 ∷ 49 ∷ 54 ∷ 58 ∷ 61 ∷ 63 ∷ []

-- a list in the order of the scan, row by row
abbrev pub in_raster_order : (scan_places entries : List ℕ) → List ℕ
in_raster_order scan_places entries = map (slice_index entries) scan_places
