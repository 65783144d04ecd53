-- A list whose items are written one after another.
use Rattle.std.proofs.Common.{◌≡◌, ℕ, suc, ◌+◌, ◌<◌, List, [], ◌∷◌, ◌++◌, length, take, drop, set, map}
use Rattle.std.proofs.Common.{get_or, sym, ap, ◌∙◌, arith}
use Rattle.std.proofs.lemmas.List.{drop-drop, drop-set-lt, length-map}
use Rattle.std.proofs.Math.ListN.{get_or-map}
use Rattle.std.proofs.Math.Seq.{take-suc, take-suc-set}

-- the items up to the one that is written are those of the mapped list
pub written-suc : (f : ℕ → ℕ) (from xs : List ℕ) (i : ℕ) → i < length from → i < length xs
    → take i xs ≡ take i (map f from)
    → take (i + 1) (set xs i (f (get_or from i 0))) ≡ take (i + 1) (map f from)
written-suc f from xs i inside within same =
    let more : i + 1 ≡ suc i = omega arith in
    let long : i < length (map f from) = omega (arith, length-map from f) in
    rw more
    (take-suc-set xs i (f (get_or from i 0)) within
    ∙ ap (λ l. l ++ f (get_or from i 0) ∷ []) same
    ∙ ap (λ x. take i (map f from) ++ x ∷ []) (sym (get_or-map f from i 0))
    ∙ sym (take-suc (map f from) i (f 0) long))

-- those after it stay
pub left-suc : (xs old : List ℕ) (i x : ℕ) → drop i xs ≡ drop i old
    → drop (i + 1) (set xs i x) ≡ drop (i + 1) old
left-suc xs old i x same =
    let less : i < i + 1 = omega arith in
    drop-set-lt (i + 1) xs i x less
    ∙ sym (drop-drop 1 i xs) ∙ ap (drop 1) same ∙ drop-drop 1 i old
