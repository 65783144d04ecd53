-- One element after another.
use Rattle.std.proofs.Common.{◌≡◌, ℕ, ◌+◌, ◌<◌, ◌≤◌, Bool, true, false, cond, ◌||◌, List, [], ◌∷◌, ◌++◌, length, get_or, drop, map, refl}
use Rattle.std.proofs.Common.{sym, ap, ◌∙◌, append_assoc, arith}
use Rattle.std.specs.List.{list_any}
use Rattle.std.proofs.lemmas.List.{drop_more, drop_all}
use Rattle.hevc_configuration.specs.declared.record.UnitArray.{UnitArray}
use Rattle.hevc_configuration.specs.Configuration.{array_rows, arrays_rows}
use Rattle.hevc_configuration.specs.Rows.{Row, row_bytes, bytes_of_rows}
use Rattle.hevc_configuration.specs.Views.{plain_array}

pub next_of : {X : Type 0} (xs : List X) (i : ℕ) (x : X) → i < length xs → x ≡ get_or xs i x
    → drop i xs ≡ x ∷ drop (i + 1) xs
next_of {X} xs i x lt is = drop_more xs i x lt ∙ ap (λ (y : X). y ∷ drop (i + 1) xs) (sym is)

-- whether one of those that are left passes
pub any_of_rest : {X Y : Type 0} (test : Y → Bool) (f : X → Y) (xs : List X) (i : ℕ) (x : X) → i < length xs
    → x ≡ get_or xs i x
    → list_any test (map f (drop i xs)) ≡ (test (f x) || list_any test (map f (drop (i + 1) xs)))
any_of_rest {X} test f xs i x lt is = ap (λ (ys : List X). list_any test (map f ys)) (next_of xs i x lt is)

pub any_goes_on : {X Y : Type 0} (test : Y → Bool) (f : X → Y) (xs : List X) (i : ℕ) (x : X) (total : Bool) → i < length xs
    → x ≡ get_or xs i x → test (f x) ≡ false → list_any test (map f (drop i xs)) ≡ total
    → list_any test (map f (drop (i + 1) xs)) ≡ total
any_goes_on test f xs i x total lt is fails so_far =
    sym (any_of_rest test f xs i x lt is ∙ ap (λ (b : Bool). b || list_any test (map f (drop (i + 1) xs))) fails) ∙ so_far

pub any_found : {X Y : Type 0} (test : Y → Bool) (f : X → Y) (xs : List X) (i : ℕ) (x : X) (total : Bool) → i < length xs
    → x ≡ get_or xs i x → test (f x) ≡ true → list_any test (map f (drop i xs)) ≡ total → true ≡ total
any_found test f xs i x total lt is passes so_far =
    sym (any_of_rest test f xs i x lt is ∙ ap (λ (b : Bool). b || list_any test (map f (drop (i + 1) xs))) passes) ∙ so_far

pub rows_append : (xs ys : List Row) → bytes_of_rows (xs ++ ys) ≡ bytes_of_rows xs ++ bytes_of_rows ys
rows_append [] ys = refl
rows_append (x ∷ xs) ys =
    ap (λ (t : List ℕ). row_bytes x ++ t) (rows_append xs ys)
    ∙ sym (append_assoc (row_bytes x) (bytes_of_rows xs) (bytes_of_rows ys))

pub array_written : (arrays : List UnitArray) (i : ℕ) (a : UnitArray) (out more total : List ℕ) → i < length arrays
    → a ≡ get_or arrays i a → more ≡ out ++ bytes_of_rows (array_rows (plain_array a))
    → out ++ bytes_of_rows (arrays_rows (map plain_array (drop i arrays))) ≡ total
    → more ++ bytes_of_rows (arrays_rows (map plain_array (drop (i + 1) arrays))) ≡ total
array_written arrays i a out more total lt is grown so_far =
    let own = bytes_of_rows (array_rows (plain_array a)) in
    let others = bytes_of_rows (arrays_rows (map plain_array (drop (i + 1) arrays))) in
    ap (λ (t : List ℕ). t ++ others) grown ∙ append_assoc out own others
    ∙ ap (λ (t : List ℕ). out ++ t)
    (sym (rows_append (array_rows (plain_array a)) (arrays_rows (map plain_array (drop (i + 1) arrays)))))
    ∙ ap (λ (as' : List UnitArray). out ++ bytes_of_rows (arrays_rows (map plain_array as'))) (sym (next_of arrays i a lt is))
    ∙ so_far
