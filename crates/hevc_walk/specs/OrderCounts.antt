-- Picture order counts (8.3.1).
use Rattle.std.specs.Prelude.{◌≡◌, ℕ, ℤ, pos, ◌^◌, ◌+ℤ◌, ◌-ℤ◌, ◌*ℤ◌, ◌≤ℤ◌, ◌<ℤ◌, Bool, ◌&&◌}
use Rattle.std.specs.Prelude.{if◌then◌else◌, int_le, Option, Some, None}
use Rattle.std.specs.Int.{int_rem_euclid}

-- x is congruent to the low bits modulo MaxPicOrderCntLsb, and its difference to the earlier count
-- is above minus half of that and at most half of it (8-1)
pub record IsNearest (max_pic_order_cnt_lsb : ℕ) (earlier : ℤ) (pic_order_cnt_lsb : ℕ) (x : ℤ)
    : Type 0 where
  pub cycles : ℤ
  pub congruent : x ≡ (pos pic_order_cnt_lsb +ℤ (cycles *ℤ pos max_pic_order_cnt_lsb))
  pub above : (earlier +ℤ earlier) <ℤ (x +ℤ x +ℤ pos max_pic_order_cnt_lsb)
  pub at_most : (x +ℤ x) ≤ℤ (earlier +ℤ earlier +ℤ pos max_pic_order_cnt_lsb)

-- a difference from 0 to below the modulus,
-- or the one that is less by the modulus where it is above half of it
abbrev pub centred_difference : ℕ → ℤ → ℤ
centred_difference modulus d = if int_le (d +ℤ d) (pos modulus) then d else d -ℤ pos modulus

-- the number that is nearest so
unfoldable pub nearest : ℕ → ℤ → ℕ → ℤ
nearest modulus earlier lsb =
    earlier +ℤ centred_difference modulus (int_rem_euclid (pos lsb -ℤ earlier) (pos modulus))

-- PicOrderCntVal after the count of prevTid0Pic, if there is such a picture
abbrev pub count_behind : ℕ → Option ℤ → ℕ → ℤ
count_behind modulus None lsb = pos lsb
count_behind modulus (Some earlier) lsb = nearest modulus earlier lsb

abbrev pub is_i32 : ℤ → Bool
is_i32 n = int_le (pos 0 -ℤ pos (2 ^ 31)) n && int_le n (pos (2 ^ 31) -ℤ pos 1)
