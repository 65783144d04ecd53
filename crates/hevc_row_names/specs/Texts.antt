-- What H.265 calls the elements of each row, by their numbers in docs/TABLES.md.
use Rattle.std.specs.Prelude.{ℕ, ◌-◌, List, [], ◌∷◌, map, slice_index_or}
use Rattle.hevc_row_names.specs.declared.rows.TheConstants.{CLAUSES, TABLE_0, TABLE_1, TABLE_2}
use Rattle.hevc_row_names.specs.declared.rows.TheConstants.{TABLE_3, TABLE_4}
use Rattle.hevc_row_names.specs.declared.rows.TheConstants.{TABLE_5, TABLE_6, TABLE_7, TABLE_8}
use Rattle.hevc_row_names.specs.declared.rows.TheConstants.{TABLE_9, TABLE_10, TABLE_11, TABLE_12}
use Rattle.hevc_row_names.specs.declared.rows.TheConstants.{TABLE_13, TABLE_14, TABLE_15, TABLE_16}

-- those of each table's rows, from row 1 on
abbrev pub texts : List (List (List ℕ))
texts =
    map (λ t. t.now) TABLE_0
    ∷ map (λ t. t.now) TABLE_1
    ∷ map (λ t. t.now) TABLE_2
    ∷ map (λ t. t.now) TABLE_3
    ∷ map (λ t. t.now) TABLE_4
    ∷ map (λ t. t.now) TABLE_5
    ∷ map (λ t. t.now) TABLE_6
    ∷ map (λ t. t.now) TABLE_7
    ∷ map (λ t. t.now) TABLE_8
    ∷ map (λ t. t.now) TABLE_9
    ∷ map (λ t. t.now) TABLE_10
    ∷ map (λ t. t.now) TABLE_11
    ∷ map (λ t. t.now) TABLE_12
    ∷ map (λ t. t.now) TABLE_13
    ∷ map (λ t. t.now) TABLE_14
    ∷ map (λ t. t.now) TABLE_15
    ∷ map (λ t. t.now) TABLE_16
    ∷ []

-- the text of a row
abbrev pub text_of : ℕ → ℕ → List ℕ
text_of table row = slice_index_or (slice_index_or texts table []) (row - 1) []

-- the clause that has a table's syntax
abbrev pub clause_of : ℕ → List ℕ
clause_of table = slice_index_or (map (λ t. t.now) CLAUSES) table []
