-- Pictures that are output, by their numbers and order counts,
-- and by the handles that they were stored with.
use Rattle.std.specs.Prelude.{ℕ, ℤ}
use Rattle.hevc_walk.specs.Buffer.{Entry}
use Rattle.hevc_dpb.specs.declared.entry.DpbEntry.{DpbEntry}
use Rattle.hevc_bumping.specs.declared.frame.Frame.{Frame}

-- the frame of a stored picture
abbrev pub frame_of : {H : Type 0} → DpbEntry H → Frame H
frame_of e = record {
  number = e.number;
  handle = e.handle;
  order_count = e.picture.pic_order_cnt_val;
}

-- a picture's number with its handle
abbrev pub frame_ticket : {H : Type 0} → Frame H → ℕ × H
frame_ticket f = (f.number, f.handle)

-- a picture's number with its order count
abbrev pub frame_output : {H : Type 0} → Frame H → ℕ × ℤ
frame_output f = (f.number, f.order_count)

abbrev pub entry_output : Entry → ℕ × ℤ
entry_output e = (e.number, e.order_count)
