-- Bytes, one by one.
use Rattle.std.proofs.Common.{◌≡◌, ℕ, zero, suc, ◌+◌, ◌<◌, ◌≤◌, List, ◌∷◌, length, get_or, take, drop, refl, ap}
use Rattle.std.proofs.Common.{◌∙◌, arith, inl, inr}
use Rattle.std.proofs.lemmas.Bool.{cases_lt}
use Rattle.std.proofs.lemmas.List.{drop_more, get_or-drop}

abbrev pub IsBytes : List ℕ → Type 0
IsBytes bytes = (i : ℕ) → get_or bytes i 0 < 256

pub IsBytes-drop : (n : ℕ) (bytes : List ℕ) → IsBytes bytes → IsBytes (drop n bytes)
IsBytes-drop n bytes h i = rw get_or-drop (h (n + i))

-- so many of them from a place on, and those after
abbrev pub cells : ℕ → ℕ → List ℕ → List ℕ
cells place zero bytes = drop place bytes
cells place (suc n) bytes = get_or bytes place 0 ∷ cells (place + 1) n bytes

pub cells_are : (n place : ℕ) (bytes : List ℕ) → place + n ≤ length bytes → drop place bytes ≡ cells place n bytes
cells_are zero place bytes le = refl
cells_are (suc n) place bytes le =
    drop_more bytes place 0 (omega arith)
    ∙ ap (λ (xs : List ℕ). get_or bytes place 0 ∷ xs) (cells_are n (place + 1) bytes (omega arith))
