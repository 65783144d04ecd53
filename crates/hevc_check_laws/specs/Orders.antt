-- The breaches of display order: of two pictures that don't go together the later one breaks it.
use Rattle.std.specs.Prelude.{ℕ, ℤ, ◌+◌, Bool, false, not, ◌&&◌, ◌||◌, nat_lt, nat_le, int_lt, List, [], ◌∷◌, length, Option}
use Rattle.std.specs.Ordering.{int_eq}
use Rattle.std.specs.List.{list_any}
use Rattle.hevc_walk.specs.Meanings.{Format}
use Rattle.hevc_walk.specs.Pictures.{Picture}
use Rattle.hevc_walk_order.specs.Sequences.{begins, is_for_output}
use Rattle.hevc_walk_order.specs.DisplayOrder.{latency_pictures, decoded_between, entries_before, needed_behind}
use Rattle.hevc_check_laws.specs.Breaches.{Breach, Changed, Latency, SameCount, Full, Discards, Reorder, earlier_in, earlier_for_output, is_changed, discards, is_reordered}

-- A picture comes too late after one that it is output before: SpsMaxLatencyPictures (7-9) or more
-- are decoded between them.
abbrev pub comes_late : List Picture → Picture → Picture → Bool
comes_late earlier p b =
    int_lt p.order_count b.order_count
    && nat_le (latency_pictures p.limits) (decoded_between b.number p.number earlier)

-- As a picture is to be decoded the buffer is full of entries that are referred to, or are output no
-- earlier than an order count, so one of these has to be output (C.5.2.2).
abbrev pub is_full_for : Option (ℕ × Format) → ℤ → Picture → List Picture → Bool
is_full_for set c p before =
    not p.skipped
    && nat_le (p.limits.max_dec_pic_buffering_minus1 + 1)
    (length (needed_behind c (entries_before set p before)))

-- it was so at the latest of these, or at an earlier one of its sequence but the first
abbrev pub was_full_up_to : Option (ℕ × Format) → ℤ → List Picture → Bool
was_full_up_to set c [] = false
was_full_up_to set c (p ∷ before) =
    not (begins p before) && (is_full_for set c p before || was_full_up_to set c before)

-- what a picture breaks, after those before it
abbrev pub breaks_order : Option (ℕ × Format) → Picture → List Picture → Breach → Bool
-- another format or other limits than the first picture of its sequence has
breaks_order set p before Changed = is_changed p before
-- a latency is declared, and it comes too late after one that it is output before
breaks_order set p before Latency =
    is_for_output p
    && nat_lt 0 p.limits.max_latency_increase_plus1
    && list_any (comes_late (earlier_in p before) p) (earlier_for_output p before)
-- an earlier picture of its sequence that is to be output, as it is, has its order count
breaks_order set p before SameCount =
    is_for_output p
    && list_any (λ b. int_eq p.order_count b.order_count) (earlier_for_output p before)
-- at it or before it the buffer was full of entries that are referred to, or are output no earlier
-- than it
breaks_order set p before Full = is_for_output p && was_full_up_to set p.order_count (p ∷ before)
-- its NoOutputOfPriorPicsFlag is set (C.5.2.2), whether or not a picture waits for output
breaks_order set p before Discards = discards p
-- more pictures than declared are before it and are output after it
breaks_order set p before Reorder = is_reordered p before
