-- Which pictures are in a reference picture list (8.3.4).
use Rattle.std.specs.Prelude.{ℕ, Bool, false, ◌||◌, ◌==◌, List, [], ◌∷◌, Option, Some, None}
use Rattle.hevc_walk.specs.ReferenceLists.{RefPicListEntry, CurrentPicture, DpbEntry}

-- a place has the stored picture of this number
abbrev pub lists : ℕ → List (Option RefPicListEntry) → Bool
lists n [] = false
lists n (None ∷ places) = lists n places
lists n (Some CurrentPicture ∷ places) = lists n places
lists n (Some (DpbEntry m) ∷ places) = m == n || lists n places
