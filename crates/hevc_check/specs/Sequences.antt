-- What is kept of the pictures of a coded video sequence.
use Rattle.std.specs.Int.{w32}
use Rattle.std.specs.Prelude.{FitsSigned, ◌≡◌, ◌+◌, ℕ, ℤ, Bool, min, false, int_lt, count_by, filter, List, [], ◌∷◌, length, Option, Some, None}
use Rattle.std.specs.Ordering.{int_cmp, int_eq}
use Rattle.std.specs.List.{list_any}
use Rattle.std.specs.BTreeSet.{contains}
use Rattle.hevc_walk.specs.Meanings.{Format}
use Rattle.hevc_walk.specs.Pictures.{Picture}
use Rattle.hevc_walk_order.specs.Sequences.{begins, earliest, is_for_output}
use Rattle.hevc_walk_order.specs.DisplayOrder.{entries_before}
use Rattle.hevc_check_laws.specs.Breaches.{latest_sequence, earlier_in}
use Rattle.hevc_check_laws.specs.Orders.{is_full_for, was_full_up_to}
use Rattle.hevc_pictures.specs.Limits.{limits_of}
use Rattle.hevc_backend.specs.Negotiation.{format_of}
use Rattle.hevc_driver.specs.Heads.{head_of}
use Rattle.hevc_check.specs.declared.begun.Begun.{Begun}
use Rattle.hevc_check.specs.Filled.{is_up_to}
use Rattle.hevc_check.specs.Late.{AreHighest, Fall}
use Rattle.hevc_check.specs.Tables.{is_counted}
use Rattle.hevc_check.specs.declared.sequence.Sequence.{Sequence}

-- the first of a sequence's pictures: the earliest before one, or this one
abbrev pub first_or : Picture → Option Picture → Picture
first_or p None = p
first_or p (Some first) = first

-- how many of these counts are above one
unfoldable pub above : ℤ → List ℤ → ℕ
above c counts = count_by (λ b. int_lt c b) counts

-- how many of these pictures that are to be output have a count above one
unfoldable pub output_above : ℤ → List Picture → ℕ
output_above c es = count_by (λ b. int_lt c b.order_count) (filter is_for_output es)

-- one of these pictures has this count
unfoldable pub has_count : ℤ → List Picture → Bool
has_count c es = list_any (λ b. int_eq c b.order_count) es

-- Of the order counts of these pictures that are to be output the highest are kept: how many are
-- above a count is told as far as one more than may precede a picture in decoding order.
abbrev pub KeepsHighest : List Picture → Sequence → Type 0
KeepsHighest es q =
    (c : ℤ) → min (q.limits.reorder + 1) (above c q.highest.items)
    ≡ min (q.limits.reorder + 1) (output_above c es)

-- Of the pictures of a sequence before one, latest first, this is kept.
pub record Follows (p : Picture) (es : List Picture) (q : Sequence) : Type 0 where
  pub limits : limits_of q.limits ≡ (first_or p (earliest es)).limits
  pub format : format_of q.format ≡ (first_or p (earliest es)).format
  pub counts : (c : ℤ)
      → contains int_cmp q.counts c ≡ has_count c (filter (is_counted q.table) es)
  pub highest : KeepsHighest es q
  pub so_far : AreHighest es q.so_far

-- What is told of a picture that begins, after those before it.
pub record TellsNext (set : Option (ℕ × Format)) (p : Picture) (before : List Picture) (b : Begun)
    : Type 0 where
  pub head : head_of b.head ≡ p.head
  pub begins : b.begins_sequence ≡ begins p before
  pub stored : p.skipped ≡ false → b.stored.num ≡ length (entries_before set p before)
  pub filled : (c : ℤ) → FitsSigned w32 c → is_up_to c b.stored.filled ≡ is_full_for set c p before
  pub numbers : Fall p.number before

-- Of the sequence of the latest of these pictures this is kept, whichever picture comes next.
abbrev pub FollowsLatest : List Picture → Sequence → Type 0
FollowsLatest [] q = Unit {0}
FollowsLatest (p ∷ before) q = (next : Picture) → Follows next (latest_sequence (p ∷ before)) q

-- up to which order count the buffer was full at the latest of these, or at an earlier one of its
-- sequence but the first
abbrev pub AreFilled : Option (ℕ × Format) → List Picture → Sequence → Type 0
AreFilled set ps q = (c : ℤ) → FitsSigned w32 c → is_up_to c q.filled ≡ was_full_up_to set c ps

-- Of these pictures this is kept.
pub record FollowsAll (set : Option (ℕ × Format)) (ps : List Picture) (q : Sequence) : Type 0 where
  pub latest : FollowsLatest ps q
  pub filled : AreFilled set ps q

-- As a picture begins this is kept of those before it.
pub record FollowsTo (set : Option (ℕ × Format)) (p : Picture) (before : List Picture)
    (q : Sequence) : Type 0 where
  pub earlier : Follows p (earlier_in p before) q
  pub filled : AreFilled set (p ∷ before) q
