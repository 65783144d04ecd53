-- What a check of a stream answers.
use Rattle.std.specs.Prelude.{◌≡◌, ℕ, Bool, true, false, List, [], ◌∷◌, ◌++◌, length, if◌then◌else◌, All, Option, Some, None}
use Rattle.hevc_walk.specs.Meanings.{Meaning}
use Rattle.hevc_walk.specs.Pictures.{Picture, stream, pictures}
use Rattle.hevc_walk_order.specs.Sequences.{sequences}
use Rattle.hevc_check_laws.specs.Breaches.{Breach, all_breaches}
use Rattle.hevc_check_laws.specs.Bounds.{breaks_bounds}
use Rattle.hevc_check_laws.specs.Orders.{breaks_order}

-- A picture that breaks something, the unit of its first slice, and what it breaks.
pub record BrokenAt : Type 0 where
  pub number : ℕ
  pub unit : ℕ
  pub breach : Breach

-- the first of these breaches that holds
abbrev pub first_breach : (Breach → Bool) → List Breach → Option Breach
first_breach breaks [] = None
first_breach breaks (b ∷ bs) = if breaks b then Some b else first_breach breaks bs

abbrev pub broken_at : Picture → Option Breach → Option BrokenAt
broken_at p None = None
broken_at p (Some b) = Some (record { number = p.number; unit = p.unit; breach = b })

abbrev pub earlier_broken : Option BrokenAt → Option BrokenAt → Option BrokenAt
earlier_broken (Some b) later = Some b
earlier_broken None later = later

-- the lowest numbered of these pictures, latest first, that breaks something
abbrev pub lowest_broken : (Picture → List Picture → Breach → Bool) → List Picture → Option BrokenAt
lowest_broken breaks [] = None
lowest_broken breaks (p ∷ before) =
    earlier_broken (lowest_broken breaks before)
    (broken_at p (first_breach (breaks p before) all_breaches))

-- None of these pictures, latest first, breaks anything.
abbrev pub BreaksNothing : (Picture → List Picture → Breach → Bool) → List Picture → Type 0
BreaksNothing breaks ps =
    (later : List Picture) (p : Picture) (before : List Picture)
    → ps ≡ later ++ p ∷ before
    → (b : Breach) → breaks p before b ≡ false

abbrev pub NoneBreaksBounds : List Meaning → Type 0
NoneBreaksBounds us = BreaksNothing (breaks_bounds (stream us).first_set) (pictures us)

abbrev pub NoneBreaksOrder : List Meaning → Type 0
NoneBreaksOrder us = BreaksNothing (breaks_order (stream us).first_set) (pictures us)

-- One of these pictures breaks this, and nothing of an earlier line of the table, and none before
-- it breaks anything.
pub record IsLowest (breaks : Picture → List Picture → Breach → Bool) (ps : List Picture)
    (broken : BrokenAt) : Type 0 where
  pub later : List Picture
  pub picture : Picture
  pub before : List Picture
  pub parts : ps ≡ later ++ picture ∷ before
  pub number : picture.number ≡ broken.number
  pub unit : picture.unit ≡ broken.unit
  pub breaks_it : breaks picture before broken.breach ≡ true
  -- the lines of the table above and below
  pub above : List Breach
  pub below : List Breach
  pub table : all_breaches ≡ above ++ broken.breach ∷ below
  pub first : All (λ b. breaks picture before b ≡ false) above
  pub lowest : BreaksNothing breaks before

pub data Checked : Type 0 where
  -- nothing is broken: how many coded video sequences and pictures there are
  Yes : (sequences pictures : ℕ) → Checked
  No : (broken : BrokenAt) → Checked

abbrev pub checked_with : Option BrokenAt → List Meaning → Checked
checked_with None us = Yes (length (sequences us)) (length (pictures us))
checked_with (Some broken) us = No broken

-- whether the plainer bounds are kept
abbrev pub checked_bounds : List Meaning → Checked
checked_bounds us =
    checked_with (lowest_broken (breaks_bounds (stream us).first_set) (pictures us)) us

-- whether the display order is kept that is declared
abbrev pub checked_order : List Meaning → Checked
checked_order us =
    checked_with (lowest_broken (breaks_order (stream us).first_set) (pictures us)) us
