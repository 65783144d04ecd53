-- Order counts (8.3.1), as code has them.
use Rattle.std.specs.Prelude.{◌≡◌, ℕ, ℤ, pos, ◌+◌, ◌^◌, ◌≤◌, Bool, if◌then◌else◌, Option}
use Rattle.hevc_walk.specs.OrderCounts.{count_behind}

-- a power of two from 16 to 65536 (7-8)
pub record IsMaxPicOrderCntLsb (m : ℤ) : Type 0 where
  pub log2_minus4 : ℕ
  pub bound : log2_minus4 ≤ 12
  pub power : m ≡ pos (2 ^ (log2_minus4 + 4))

-- PicOrderCntVal of a picture that begins a sequence, or follows prevTid0Pic, which has this
-- order count, if there is one (8.3.1)
abbrev pub count_by : Bool → ℕ → Option ℤ → ℕ → ℤ
count_by begins_sequence max_lsb prev_tid0_count lsb =
    if begins_sequence then pos lsb else count_behind max_lsb prev_tid0_count lsb
