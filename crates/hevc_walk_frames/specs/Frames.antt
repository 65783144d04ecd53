-- The frames that are kept while a stream is decoded.
use Rattle.std.specs.Prelude.{◌≡◌, ℕ, ◌≤◌, Bool, true, false, ◌||◌, ◌==◌, List, [], ◌∷◌, length}
use Rattle.std.specs.Prelude.{Option}
use Rattle.hevc_walk.specs.Meanings.{Format}
use Rattle.hevc_walk.specs.Pictures.{Picture}
use Rattle.hevc_walk.specs.ReferenceSets.{names, all_members}
use Rattle.hevc_walk.specs.Walk.{store, reference_set_of}
use Rattle.hevc_walk.specs.Fates.{among, times}
use Rattle.hevc_walk_frames.specs.Coming.{is_waiting}

-- While a picture is the latest that began, after these, the frames of these pictures are kept: its
-- own, those that its reference picture set names (8.3.2), and those that wait for output (C.5.2).
abbrev pub is_kept : Option (ℕ × Format) → Picture → (before : List Picture) → (number : ℕ) → Bool
is_kept set p before n =
    p.number == n
    || names n (all_members (reference_set_of set p before))
    || is_waiting n (store set (p ∷ before)).buffer

-- The frames of these pictures are kept, and none of them is there twice.
pub record AreKept (set : Option (ℕ × Format)) (p : Picture) (before : List Picture)
    (numbers : List ℕ) : Type 0 where
  pub kept : (n : ℕ) → among n numbers ≡ true → is_kept set p before n ≡ true
  pub once : (n : ℕ) → times n numbers ≤ 1

-- while any of these pictures is the latest, no more frames are kept than MaxDpbSize (A.4.2) of its
-- format; a picture that is skipped takes none
abbrev pub KeepsFew : Option (ℕ × Format) → List Picture → Type 0
KeepsFew set [] = Unit {0}
KeepsFew set (p ∷ before) =
    (p.skipped ≡ false → (numbers : List ℕ) → AreKept set p before numbers
    → length numbers ≤ p.format.max_num_pics)
    × KeepsFew set before
