-- The words of a command line, and what handing one over answers.
use Rattle.std.specs.Prelude.{◌≡◌, ℕ, ◌-◌, ◌^◌, ◌<◌, ◌≤◌, ◌⊎◌, List, length, take, slice_get}
use Rattle.std.specs.Prelude.{Option, Some, None, Result, Ok, Err, IsSomeAnd}
use Rattle.std.specs.declared.env.FillError.{FillError}
use Rattle.std.specs.declared.env.FillError.TheVariants.{NotPresent, TooLong}

-- the word is put at the front of the room, or is longer than it, or there is none
abbrev pub HandsOver : Option (List ℕ) → Result ℕ FillError → List ℕ → Type 0
HandsOver (Some word) (Ok count) room = take count room ≡ word
HandsOver (Some word) (Err TooLong) room = length room < length word
HandsOver None (Err NotPresent) room = Unit {0}
HandsOver word result room = ⊥

-- the word with this number, from 0, has more bytes than that
abbrev pub IsLonger : ℕ → List (List ℕ) → ℕ → Type 0
IsLonger most words number = IsSomeAnd (slice_get words number) (λ word. most < length word)

-- some word has more bytes than that, or they are more than can be numbered
abbrev pub AreTooMuch : ℕ → List (List ℕ) → Type 0
AreTooMuch most words =
    ((number : ℕ) × IsLonger most words number) ⊎ (2 ^ 64 - 1 ≤ length words)
