-- The decoded picture buffer as Linux's stateless decoders take it.
use Rattle.std.specs.Prelude.{ℕ, ◌*◌, ◌%◌, ◌^◌, ◌==◌, pos, Bool, true, false, List, Option, Some}
use Rattle.std.specs.Prelude.{None, position, unwrap_or}
use Rattle.hevc_pictures.specs.declared.reference.Reference.{Reference}
use Rattle.hevc_pictures.specs.declared.reference.Reference.TheVariants.{None as Unmarked}
use Rattle.hevc_pictures.specs.declared.reference.Reference.TheVariants.{ShortTerm, LongTerm}
use Rattle.hevc_pictures.specs.Marks.{reference_of}
use Rattle.hevc_dpb.specs.declared.entry.DpbEntry.{DpbEntry}
use Rattle.hevc_refs.specs.declared.ref_pic_list.RefPicListEntry.{RefPicListEntry}
use Rattle.hevc_refs.specs.declared.ref_pic_list.RefPicListEntry.TheVariants as place
use Rattle.hevc_v4l2.specs.declared.buffer.V4l2HevcDpbEntry.{V4l2HevcDpbEntry}

-- V4L2_HEVC_DPB_ENTRY_LONG_TERM_REFERENCE
abbrev pub long_term_flag : Reference → ℕ
long_term_flag Unmarked = 0
long_term_flag ShortTerm = 0
long_term_flag LongTerm = 1

-- "Timestamp of the V4L2 capture buffer to use as reference", in nanoseconds (v4l2_hevc_dpb_entry).
-- A buffer is given its time as seconds and microseconds, a struct timeval, which the kernel turns
-- into nanoseconds, in 64 bits (v4l2_timeval_to_ns): that of a picture's buffer is its number in
-- microseconds.
abbrev pub timestamp : (number : ℕ) → ℕ
timestamp number = 1000 * number % 2 ^ 64

-- a stored picture, whose handle is its number
abbrev pub control_of_entry : DpbEntry ℕ → V4l2HevcDpbEntry
control_of_entry e = record {
  timestamp = timestamp e.handle;
  flags = long_term_flag (reference_of e.picture);
  field_pic = 0;
  reserved = 0;
  pic_order_cnt_val = e.picture.pic_order_cnt_val;
}

-- a place of the buffer that holds no picture
abbrev pub no_entry : V4l2HevcDpbEntry
no_entry = record {
  timestamp = 0;
  flags = 0;
  field_pic = 0;
  reserved = 0;
  pic_order_cnt_val = pos 0;
}

-- where a picture is among the reference pictures of these numbers, 255 where it isn't
abbrev pub number_index : (numbers : List ℕ) → ℕ → ℕ
number_index numbers number = unwrap_or (position (λ stored. stored == number) numbers) 255

-- that of a member of a reference picture set, 255 where there is no such picture (8.3.2)
abbrev pub member_index : (numbers : List ℕ) → Option ℕ → ℕ
member_index numbers None = 255
member_index numbers (Some number) = number_index numbers number

-- that of a place of a reference picture list (8.3.4)
abbrev pub place_index : (numbers : List ℕ) → Option RefPicListEntry → ℕ
place_index numbers None = 255
place_index numbers (Some place.CurrentPicture) = 255
place_index numbers (Some (place.DpbEntry number)) = number_index numbers number

-- the place of a list is the current picture itself
abbrev pub is_current : Option RefPicListEntry → Bool
is_current None = false
is_current (Some place.CurrentPicture) = true
is_current (Some (place.DpbEntry number)) = false
