-- Which pictures may still be output.
use Rattle.std.specs.Prelude.{◌≡◌, ℕ, Bool, false, ◌&&◌, ◌||◌, ◌==◌, List, [], ◌∷◌, Option, Some}
use Rattle.std.specs.Prelude.{None}
use Rattle.std.specs.List.{list_any}
use Rattle.hevc_walk.specs.Buffer.{Buffer}
use Rattle.hevc_walk.specs.Pictures.{Head}
use Rattle.hevc_walk.specs.Walk.{Event, Called, Output, Part}
use Rattle.hevc_walk.specs.Fates.{among}
use Rattle.hevc_walk_units.specs.Units.{Standing, open_head}

-- the slices of this picture come
abbrev pub is_open : (number : ℕ) → Option Head → Bool
is_open number None = false
is_open number (Some p) = p.number == number

-- a picture of this number is stored, and needed for output
abbrev pub is_waiting : (number : ℕ) → Buffer → Bool
is_waiting number buffer = list_any (λ e. e.number == number && e.needed_for_output) buffer

-- it isn't output yet and may be: its slices come, or it waits
abbrev pub is_coming : Standing → (number : ℕ) → Bool
is_coming s number = is_open number (open_head s.current) || is_waiting number s.store.buffer

-- the numbers of the pictures that are output
abbrev pub output_numbers_in : List Event → List ℕ
output_numbers_in [] = []
output_numbers_in (Called call ∷ es) = output_numbers_in es
output_numbers_in (Output number order_count ∷ es) = number ∷ output_numbers_in es

-- A picture isn't output by a part, and may not be after it.
pub record NeverComes (number : ℕ) (part : Part Standing) : Type 0 where
  pub no_output : among number (output_numbers_in part.events) ≡ false
  pub no_later : is_coming part.next number ≡ false
