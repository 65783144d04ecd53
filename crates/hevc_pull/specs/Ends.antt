-- What was told of the end of a picture.
use Rattle.std.specs.Prelude.{◌≡◌, ℕ, false, None, Contains}
use Rattle.std.specs.List.{find}
use Rattle.hevc_walk_frames.specs.Coming.{is_coming}
use Rattle.hevc_pull.specs.declared.counted.Counted.{Counted}
use Rattle.hevc_pull.specs.Counting.{has_number}
use Rattle.hevc_pull.specs.Pulling.{Telling}

-- its end is told no more
abbrev pub IsToldOnce : (number : ℕ) → Telling → Type 0
IsToldOnce number now = find (has_number number) now.counted ≡ None

-- It was counted, its end wasn't told before, and it isn't to come.
pub record IsOver (c : Counted) (before now : Telling) : Type 0 where
  pub counted : Contains before.counted c
  pub over : is_coming before.view.standing c.number ≡ false
  pub once : IsToldOnce c.number now
