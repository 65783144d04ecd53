use Rattle.std.specs.Prelude.{ℕ, ◌&&◌, nat_le, if◌then◌else◌}

-- maxDpbPicBuf: how many pictures of the largest size the buffer
-- holds in the profile of this number (H.265 A.4.2).
abbrev pub max_dpb_pic_buf_of_profile : ℕ → ℕ
max_dpb_pic_buf_of_profile profile = if nat_le 1 profile && nat_le profile 5 then 6 else 7
