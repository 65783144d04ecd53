-- The decoded picture buffer, a list in the order in which pictures were stored,
-- and bumping (C.5.2).
use Rattle.std.specs.Prelude.{ℕ, ℤ, ◌+◌, ◌-◌, ◌^◌, min, Bool, true, false, not, ◌&&◌, ◌||◌, List}
use Rattle.std.specs.Prelude.{[], ◌∷◌, ◌++◌, length, map, if◌then◌else◌, ◌==◌, nat_lt, nat_le}
use Rattle.std.specs.Prelude.{count_by, int_lt}
use Rattle.std.specs.List.{list_any}
use Rattle.hevc_walk.specs.Meanings.{Limits}
use Rattle.hevc_walk.specs.Pictures.{Head}

-- How an entry is marked (8.3.2).
pub data Mark : Type 0 where
  Unused ShortTerm LongTerm : Mark

-- marked as used for reference
abbrev pub is_reference : Mark → Bool
is_reference Unused = false
is_reference ShortTerm = true
is_reference LongTerm = true

-- A stored picture.
pub record Entry : Type 0 where
  pub number : ℕ
  pub order_count : ℤ
  pub mark : Mark
  pub needed_for_output : Bool
  -- PicLatencyCount (C.5.2.3), raised at every store as far as 2 ^ 31 - 1
  pub latency_count : ℕ

abbrev pub Buffer : Type 0
Buffer = List Entry

-- needed for output, or marked as used for reference: an entry that is neither leaves (C.5.2.2)
abbrev pub is_needed : Entry → Bool
is_needed e = e.needed_for_output || is_reference e.mark

-- an entry put into a list of rising order counts, before those of its own count
abbrev pub placed : Entry → Buffer → List Entry
placed e [] = e ∷ []
placed e (f ∷ fs) = if int_lt f.order_count e.order_count then f ∷ placed e fs else e ∷ f ∷ fs

-- the entries that are needed for output, by order count,
-- and in stored order where counts are equal
abbrev pub in_output_order : Buffer → List Entry
in_output_order [] = []
in_output_order (e ∷ es) =
    if e.needed_for_output then placed e (in_output_order es) else in_output_order es

abbrev pub has_number : ℕ → List Entry → Bool
has_number n [] = false
has_number n (e ∷ es) = e.number == n || has_number n es

-- an entry that is output isn't needed for output any more,
-- and leaves if no reference is made to it (C.5.2.4)
abbrev pub left_of : Bool → Entry → List Entry
left_of is_output e =
    if is_output
    then (if is_reference e.mark then record e { needed_for_output = false } ∷ [] else [])
    else e ∷ []

-- the buffer once some entries were output
abbrev pub after_output : List Entry → Buffer → Buffer
after_output outputs [] = []
after_output outputs (e ∷ es) = left_of (has_number e.number outputs) e ++ after_output outputs es

-- the shortest front that passes the test, or all
abbrev pub shortest_front : {X : Type 0} → (List X → Bool) → List X → List X
shortest_front passes [] = []
shortest_front passes (x ∷ xs) =
    if passes [] then [] else x ∷ shortest_front (λ front. passes (x ∷ front)) xs

-- What is output, and the buffer after it.
pub record Bumped : Type 0 where
  pub outputs : List Entry
  pub left : Buffer

-- as few as make the rule false, or all
unfoldable pub due_outputs : (Buffer → Bool) → Buffer → List Entry
due_outputs rule es =
    shortest_front (λ outputs. not (rule (after_output outputs es))) (in_output_order es)

-- bumping (C.5.2.4) as long as a rule holds
abbrev pub bumping : (Buffer → Bool) → Buffer → Bumped
bumping rule es = record {
  outputs = due_outputs rule es;
  left = after_output (due_outputs rule es) es;
}

-- all that is needed for output is output, and the buffer is emptied
abbrev pub draining : Buffer → Bumped
draining es = record { outputs = in_output_order es; left = [] }

-- its latency count is at least SpsMaxLatencyPictures (7-9)
abbrev pub is_late : Limits → Entry → Bool
is_late limits e =
    e.needed_for_output
    && nat_le (limits.max_num_reorder_pics + limits.max_latency_increase_plus1 - 1) e.latency_count

-- additional bumping, once a picture is stored (C.5.2.3)
unfoldable pub needs_additional_bumping : Limits → Buffer → Bool
needs_additional_bumping limits es =
    nat_lt limits.max_num_reorder_pics (count_by (λ e. e.needed_for_output) es)
    || (nat_lt 0 limits.max_latency_increase_plus1 && list_any (is_late limits) es)

-- before a picture is decoded (C.5.2.2)
unfoldable pub needs_bumping : Limits → Buffer → Bool
needs_bumping limits es =
    needs_additional_bumping limits es
    || nat_le (limits.max_dec_pic_buffering_minus1 + 1) (length es)

-- a picture that was just decoded (C.5.2.3)
abbrev pub entry_of : Head → Entry
entry_of p = record {
  number = p.number;
  order_count = p.order_count;
  mark = ShortTerm;
  needed_for_output = p.pic_output_flag;
  latency_count = 0;
}

-- one picture more is stored after it; where limits are bytes no rule sees that the count stops
abbrev pub with_latency : Entry → Entry
with_latency e = record e { latency_count = min (e.latency_count + 1) (2 ^ 31 - 1) }

-- the buffer with this picture stored
unfoldable pub with_stored : Head → Buffer → Buffer
with_stored p es = map with_latency es ++ entry_of p ∷ []
