-- The names and the bounds of rows.
use Rattle.std.specs.Prelude.{◌≡◌, ℕ, List, [], length, if◌then◌else◌}
use Rattle.hevc_row_names.specs.Rows.{is_row}
use Rattle.hevc_row_names.specs.Texts.{text_of}
use Rattle.hevc_element_names.specs.Names.{bounds_of}
use Rattle.hevc_element_calls.specs.Ended.{ended}

-- A text is written as far as there is room, ended by a zero, and its size is the answer.
pub record TellsText (text : List ℕ) (old new : List ℕ) (answer : ℕ) : Type 0 where
  pub room : new ≡ ended text (length old)
  pub size : answer ≡ length text

-- what is said of a row, and nothing where there is no such row
abbrev pub of_row : (ℕ → ℕ → List ℕ) → ℕ → ℕ → List ℕ
of_row said table row = if is_row table row then said table row else []

-- what H.265 calls the elements of a row
abbrev pub TellsName : (table row : ℕ) → (old new : List ℕ) → (answer : ℕ) → Type 0
TellsName table row old new answer = TellsText (of_row text_of table row) old new answer

abbrev pub TellsBounds : (table row : ℕ) → (old new : List ℕ) → (answer : ℕ) → Type 0
TellsBounds table row old new answer = TellsText (of_row bounds_of table row) old new answer
