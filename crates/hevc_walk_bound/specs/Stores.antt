-- How many pictures the buffer holds as one is stored.
use Rattle.std.specs.Prelude.{◌≡◌, ℕ, ◌≤◌, false, List, [], ◌∷◌, length, Option}
use Rattle.hevc_walk.specs.Meanings.{Format}
use Rattle.hevc_walk.specs.Pictures.{Picture}
use Rattle.hevc_walk.specs.Walk.{store}

-- as each of these pictures that isn't skipped is to be stored,
-- the buffer holds at most as many as it declares
abbrev pub StoresFew : Option (ℕ × Format) → List Picture → Type 0
StoresFew set [] = Unit {0}
StoresFew set (p ∷ before) =
    (p.skipped ≡ false
    → length (store set (p ∷ before)).buffer ≤ p.limits.max_dec_pic_buffering_minus1)
    × StoresFew set before
