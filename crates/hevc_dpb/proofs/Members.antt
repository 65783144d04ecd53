-- Members of lists.
use Rattle.std.proofs.Common.{◌≡◌, ◌⊎◌, inl, inr, ℕ, zero, suc, ◌<◌, List, ◌∷◌, length, get_or, refl, arith}
use Rattle.std.specs.Prelude.{Contains}

module _ {X : Type 0} where
  pub contains_first : (x : X) (xs : List X) → Contains (x ∷ xs) x
  contains_first x xs = (0, omega arith, refl)

  pub contains_later : (x y : X) (xs : List X) → Contains xs y → Contains (x ∷ xs) y
  contains_later x y xs h = (suc h.0, (let k : h.0 < length xs = h.1 in omega arith), h.2)

  pub contains_cases : (x y : X) (xs : List X) → Contains (x ∷ xs) y → (x ≡ y) ⊎ Contains xs y
  contains_cases x y xs (k, l, e) = by_place k l e
    where
      by_place : {y : X} (k : ℕ) → k < length (x ∷ xs) → get_or (x ∷ xs) k y ≡ y → (x ≡ y) ⊎ Contains xs y
      by_place zero l e = inl e
      by_place (suc k) l e = inr (k, omega arith, e)
