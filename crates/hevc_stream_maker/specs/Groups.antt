-- Groups of eight pictures, as the pictures of a made stream after its first one are coded.
use Rattle.std.specs.Prelude.{ℕ, ◌+◌, ◌*◌, ◌/◌, ◌%◌, nat_lt, ◌&&◌, Bool, true, false, List, [], ◌∷◌}
use Rattle.std.specs.Prelude.{slice_index_or}

-- A member of a short-term reference picture set (7.4.8): how far its order count is from that of
-- the current picture, and whether that may refer to it.
abbrev pub Member : Type 0
Member = ℕ × Bool

-- each member lies after the one before it, and the first one after this distance
abbrev pub are_rising : ℕ → List Member → Bool
are_rising last [] = true
are_rising last (m ∷ ms) = nat_lt last m.0 && are_rising m.0 ms

-- a picture of a group: its order count after the last one of the group before, and the members of
-- its set before it and after it, nearest first
pub record Picture : Type 0 where
  pub count : ℕ
  pub before : List Member
  pub after : List Member

-- the pictures of a group in the order in which they are coded
abbrev pub group : List Picture
group =
    record { count = 8; before = (8, true) ∷ []; after = [] }
    ∷ record { count = 4; before = (4, true) ∷ []; after = (4, true) ∷ [] }
    ∷ record { count = 2; before = (2, true) ∷ []; after = (2, true) ∷ (6, false) ∷ [] }
    ∷ record {
      count = 1;
      before = (1, true) ∷ [];
      after = (1, true) ∷ (3, false) ∷ (7, false) ∷ [];
    }
    ∷ record { count = 3; before = (1, true) ∷ []; after = (1, true) ∷ (5, false) ∷ [] }
    ∷ record { count = 6; before = (2, true) ∷ []; after = (2, true) ∷ [] }
    ∷ record { count = 5; before = (1, true) ∷ []; after = (1, true) ∷ (3, false) ∷ [] }
    ∷ record { count = 7; before = (1, true) ∷ []; after = (1, true) ∷ [] }
    ∷ []

-- a picture of no group
abbrev pub no_picture : Picture
no_picture = record { count = 0; before = []; after = [] }

-- the picture of this number after the first one of the stream, from 0
abbrev pub picture : ℕ → Picture
picture number = slice_index_or group (number % 8) no_picture

-- its order count
abbrev pub order_count : ℕ → ℕ
order_count number = number / 8 * 8 + (picture number).count
