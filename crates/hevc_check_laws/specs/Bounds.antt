-- The breaches of plainer bounds: a latency is declared, a picture is output because the buffer is
-- full, or two have one order count.
use Rattle.std.specs.Prelude.{ℕ, ◌+◌, Bool, not, ◌&&◌, ◌==◌, nat_le, List, length, Option}
use Rattle.std.specs.Ordering.{int_eq}
use Rattle.std.specs.List.{list_any}
use Rattle.hevc_walk.specs.Meanings.{Format}
use Rattle.hevc_walk.specs.Pictures.{Picture}
use Rattle.hevc_walk_order.specs.Sequences.{begins}
use Rattle.hevc_walk_order.specs.DisplayOrder.{entries_before}
use Rattle.hevc_check_laws.specs.Breaches.{Breach, Changed, Latency, SameCount, Full, Discards, Reorder, earlier_in, is_changed, discards, is_reordered}

-- what a picture breaks, after those before it
abbrev pub breaks_bounds : Option (ℕ × Format) → Picture → List Picture → Breach → Bool
-- another format or other limits than the first picture of its sequence has
breaks_bounds set p before Changed = is_changed p before
-- it declares a latency, by sps_max_latency_increase_plus1
breaks_bounds set p before Latency = not (p.limits.max_latency_increase_plus1 == 0)
-- an earlier picture of its sequence has its order count
breaks_bounds set p before SameCount =
    list_any (λ b. int_eq p.order_count b.order_count) (earlier_in p before)
-- the entries that stay as it is to be decoded fill the buffer (C.5.2.2)
breaks_bounds set p before Full =
    not p.skipped
    && not (begins p before)
    && nat_le (p.limits.max_dec_pic_buffering_minus1 + 1) (length (entries_before set p before))
-- its NoOutputOfPriorPicsFlag is set (C.5.2.2), whether or not a picture waits for output
breaks_bounds set p before Discards = discards p
-- more pictures than declared are before it and are output after it
breaks_bounds set p before Reorder = is_reordered p before
