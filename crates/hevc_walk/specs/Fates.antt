-- What becomes of each picture.
use Rattle.std.specs.Prelude.{ℕ, ◌+◌, Bool, true, false, not, ◌&&◌, ◌||◌, List, [], ◌∷◌, ◌++◌, map}
use Rattle.std.specs.Prelude.{if◌then◌else◌, ◌==◌, Option}
use Rattle.hevc_walk.specs.Meanings.{Format, Meaning}
use Rattle.hevc_walk.specs.Pictures.{Head, Picture}
use Rattle.hevc_walk.specs.Buffer.{Buffer}
use Rattle.hevc_walk.specs.Walk.{Store, is_decoded, store_before}
use Rattle.hevc_walk.specs.Refusals.{covered_stream}
use Rattle.hevc_walk.specs.Results.{outputs}

abbrev pub waiting_numbers : Buffer → List ℕ
waiting_numbers [] = []
waiting_numbers (e ∷ es) =
    if e.needed_for_output then e.number ∷ waiting_numbers es else waiting_numbers es

-- what is needed for output as a picture with NoOutputOfPriorPicsFlag empties the buffer (C.5.2.2)
abbrev pub discarded_by : Head → Store → List ℕ
discarded_by p s =
    if is_decoded p && p.no_output_of_prior_pics then waiting_numbers s.buffer else []

abbrev pub discarded_in : Option (ℕ × Format) → List Picture → List ℕ
discarded_in set [] = []
discarded_in set (p ∷ before) =
    discarded_in set before ++ discarded_by p.head (store_before set p before)

-- the numbers of the pictures that are discarded
abbrev pub discarded_numbers : List Meaning → List ℕ
discarded_numbers us = discarded_in (covered_stream us).first_set (covered_stream us).pictures

pub data Fate : Type 0 where
  Skipped Hidden Discarded ForOutput : Fate

abbrev pub among : ℕ → List ℕ → Bool
among n [] = false
among n (m ∷ ms) = m == n || among n ms

-- what becomes of a picture, where these are discarded
abbrev pub fate_by : List ℕ → Picture → Fate
fate_by discarded p =
    if p.skipped then Skipped
    else if not p.pic_output_flag then Hidden
    else if among p.number discarded then Discarded
    else ForOutput

-- what becomes of a picture of these units
abbrev pub fate : List Meaning → Picture → Fate
fate us p = fate_by (discarded_numbers us) p

abbrev pub is_fated_for_output : Fate → Bool
is_fated_for_output ForOutput = true
is_fated_for_output f = false

-- the numbers of the pictures whose fate it is to be output
abbrev pub numbers_for_output : List ℕ → List Picture → List ℕ
numbers_for_output discarded [] = []
numbers_for_output discarded (p ∷ before) =
    if is_fated_for_output (fate_by discarded p) then p.number ∷ numbers_for_output discarded before
    else numbers_for_output discarded before

abbrev pub one : Bool → ℕ
one true = 1
one false = 0

-- how often a number is in a list
abbrev pub times : ℕ → List ℕ → ℕ
times n [] = 0
times n (m ∷ ms) = one (m == n) + times n ms

abbrev pub output_numbers : List Meaning → List ℕ
output_numbers us = map (λ o. o.number) (outputs us)
