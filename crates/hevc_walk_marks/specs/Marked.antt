-- Which entries a reference picture set marks (8.3.2).
use Rattle.std.specs.Prelude.{ℕ, Bool, false, ◌&&◌, ◌||◌, ◌==◌, List, [], ◌∷◌, ◌++◌, Option}
use Rattle.hevc_walk.specs.Buffer.{Buffer, is_reference}
use Rattle.hevc_walk.specs.ReferenceSets.{RefPicSet}

-- an entry of this number is used for reference
abbrev pub has_reference : ℕ → Buffer → Bool
has_reference n [] = false
has_reference n (e ∷ es) = (e.number == n && is_reference e.mark) || has_reference n es

abbrev pub short_term_members : RefPicSet → List (Option ℕ)
short_term_members s = s.st_curr_before ++ s.st_curr_after ++ s.st_foll

abbrev pub long_term_members : RefPicSet → List (Option ℕ)
long_term_members s = s.lt_curr ++ s.lt_foll
