-- What follows from the numbers of a sequence parameter set (7.4.3.2, A.4.2).
use Rattle.std.specs.Prelude.{ℕ, ◌+◌, ◌-◌, ◌*◌, ◌/◌, ◌^◌, min, Bool, ◌||◌, ◌&&◌, ◌==◌, nat_le}
use Rattle.std.specs.Prelude.{nat_lt, if◌then◌else◌}
use Rattle.hevc_records.specs.Level.{max_luma_ps_of_level}
use Rattle.hevc_records.specs.Profile.{max_dpb_pic_buf_of_profile}
use Rattle.hevc_records.specs.Sps.{PlainSps}

-- SubWidthC (Table 6-1): the luma samples for a chroma sample across,
-- 1 without chroma or with planes coded apart
abbrev pub sub_width_c : (chroma_array_type : ℕ) → ℕ
sub_width_c chroma_array_type = if chroma_array_type == 1 || chroma_array_type == 2 then 2 else 1

-- SubHeightC (Table 6-1): the luma samples for a chroma sample down
abbrev pub sub_height_c : (chroma_array_type : ℕ) → ℕ
sub_height_c chroma_array_type = if chroma_array_type == 1 then 2 else 1

-- The conformance cropping window leaves some of the picture (7.4.3.2.1).
unfoldable pub leaves_some : (chroma_array_type width height left right top bottom : ℕ) → Bool
leaves_some chroma_array_type width height left right top bottom =
    nat_lt (sub_width_c chroma_array_type * (left + right)) width
    && nat_lt (sub_height_c chroma_array_type * (top + bottom)) height

-- WpOffsetHalfRangeY and WpOffsetHalfRangeC (7.4.3.2.2),
-- by high_precision_offsets_enabled_flag and the bit depth less 8
abbrev pub wp_offset_half_range : Bool → (bit_depth_minus8 : ℕ) → ℕ
wp_offset_half_range high_precision bit_depth_minus8 =
    if high_precision then 2 ^ (bit_depth_minus8 + 7) else 128

-- MaxDpbSize (A.4.2), at most 16, of a size in luma samples
abbrev pub max_dpb_size : (max_luma_ps max_dpb_pic_buf pic_size : ℕ) → ℕ
max_dpb_size m b size =
    if nat_le size (m / 4) then min (4 * b) 16
    else if nat_le size (m / 2) then min (2 * b) 16
    else if nat_le size (3 * m / 4) then min (4 * b / 3) 16
    else b

-- MaxDpbSize (A.4.2)
abbrev pub max_dpb_size_of : PlainSps → ℕ
max_dpb_size_of s =
    max_dpb_size (max_luma_ps_of_level s.profile_tier_level.general_level_idc)
    (max_dpb_pic_buf_of_profile s.profile_tier_level.general_profile_idc)
    s.pic_size_in_samples_y

-- The conformance cropping window in luma samples (7.4.3.2.1): where it begins, and its size;
-- without the window's flag the whole picture.
abbrev pub window_left : PlainSps → ℕ
window_left s =
    if s.conformance_window_flag then sub_width_c s.chroma_array_type * s.conf_win_left_offset
    else 0

abbrev pub window_top : PlainSps → ℕ
window_top s =
    if s.conformance_window_flag then sub_height_c s.chroma_array_type * s.conf_win_top_offset
    else 0

abbrev pub window_width : PlainSps → ℕ
window_width s =
    if s.conformance_window_flag
    then s.pic_width_in_luma_samples
    - sub_width_c s.chroma_array_type * (s.conf_win_left_offset + s.conf_win_right_offset)
    else s.pic_width_in_luma_samples

abbrev pub window_height : PlainSps → ℕ
window_height s =
    if s.conformance_window_flag
    then s.pic_height_in_luma_samples
    - sub_height_c s.chroma_array_type * (s.conf_win_top_offset + s.conf_win_bottom_offset)
    else s.pic_height_in_luma_samples
