-- A list of which some members were left out.
use Rattle.std.specs.Prelude.{List, [], ◌∷◌}

-- the first list is the second with some members left out
pub data IsSublist {X : Type 0} : List X → List X → Type 0 where
  nothing : IsSublist [] []
  kept : (x : X) (xs ys : List X) → IsSublist xs ys → IsSublist (x ∷ xs) (x ∷ ys)
  left_out : (y : X) (xs ys : List X) → IsSublist xs ys → IsSublist xs (y ∷ ys)
