-- Order counts of pictures that are to be output, and up to which what is stored fills the buffer.
use Rattle.std.specs.Prelude.{ℕ, ℤ, ◌&&◌, ◌||◌, Bool, false, int_le, int_lt, nat_le, length, Option, Some, None}
use Rattle.hevc_walk.specs.Buffer.{Buffer, Entry, is_reference}
use Rattle.hevc_walk_order.specs.DisplayOrder.{needed_behind}

-- an order count is no higher than another one, if there is one
abbrev pub is_up_to : ℤ → Option ℤ → Bool
is_up_to c None = false
is_up_to c (Some k) = int_le c k

-- it is lower
abbrev pub is_below : ℤ → Option ℤ → Bool
is_below c None = false
is_below c (Some k) = int_lt c k

-- An entry is still in the buffer once all before an order count are output: it is referred to, or
-- is needed for output and isn't output before that count (C.5.2.2).
abbrev pub stays_up_to : ℤ → Entry → Bool
stays_up_to c e = is_reference e.mark || (e.needed_for_output && int_le c e.order_count)

-- those that are so are as many as a buffer of this size holds
abbrev pub is_full_up_to : ℕ → ℤ → Buffer → Bool
is_full_up_to size c es = nat_le size (length (needed_behind c es))
