-- How many pictures are decoded between one that is to be output and a later one.
use Rattle.std.specs.Prelude.{◌≡◌, ◌<◌, ◌-◌, ◌&&◌, not, ℕ, ℤ, Bool, int_lt, nat_lt, slice_index_or, List, [], ◌∷◌, length, drop, filter, if◌then◌else◌, Option, None}
use Rattle.std.specs.List.{list_any}
use Rattle.hevc_walk.specs.Pictures.{Picture}
use Rattle.hevc_walk_order.specs.Sequences.{is_for_output}
use Rattle.hevc_check.specs.Filled.{is_below}
use Rattle.hevc_check.specs.declared.late.HighestCounts.{HighestCounts}

-- the numbers of some pictures, latest first, fall, and the first is below this
abbrev pub Fall : ℕ → List Picture → Type 0
Fall n [] = Unit {0}
Fall n (p ∷ es) = (p.number < n) × Fall p.number es

-- those of these pictures that are decoded
abbrev pub decoded_of : List Picture → List Picture
decoded_of es = filter (λ p. not p.skipped) es

-- a picture is to be output, and has a higher count than this
abbrev pub is_above : ℤ → Picture → Bool
is_above c p = is_for_output p && int_lt c p.order_count

-- of these pictures, latest first, one that is to be output has a higher count than this, and at
-- least n are decoded after it
abbrev pub late_by : ℤ → ℕ → List Picture → Bool
late_by c n es = list_any (is_above c) (drop n (decoded_of es))

-- the one of a list, latest last, that n are after
abbrev pub back : ℕ → List (Option ℤ) → Option ℤ
back n xs = if nat_lt n (length xs) then slice_index_or xs (length xs - 1 - n) None else None

-- the highest counts so far of these pictures, latest first
abbrev pub AreHighest : List Picture → HighestCounts → Type 0
AreHighest es h = (c : ℤ) (n : ℕ) → is_below c (back n h.counts.items) ≡ late_by c n es
