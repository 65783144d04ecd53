-- The submission at which a store is full.
use Rattle.std.specs.Prelude.{◌≡◌, ℕ, List, [], ◌∷◌, ◌++◌}
use Rattle.hevc_walk.specs.Walk.{Call, SubmitPicture}
use Rattle.hevc_walk.specs.Results.{calls_below}

-- the first call of unit k submits a picture: before it are the calls of the units below,
-- and none of them comes after it
pub record SubmitsFirst (k : ℕ) (cs : List (ℕ × Call)) : Type 0 where
  pub number : ℕ
  pub later : List (ℕ × Call)
  pub whole : cs ≡ calls_below k cs ++ (k, SubmitPicture number) ∷ later
  pub later_from : calls_below k later ≡ []
