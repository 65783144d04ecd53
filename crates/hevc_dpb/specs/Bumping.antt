-- When bumping goes on, by latency counts of any sign.
use Rattle.std.specs.Prelude.{◌+◌, pos, ◌-ℤ◌, Bool, ◌&&◌, ◌||◌, List, length, nat_lt, nat_le}
use Rattle.std.specs.Prelude.{count_by, int_le}
use Rattle.std.specs.List.{list_any}
use Rattle.hevc_pictures.specs.declared.limits.Limits.{Limits}
use Rattle.hevc_dpb.specs.declared.entry.DpbEntry.{DpbEntry}
use Rattle.hevc_dpb.specs.Entries.{waits}

-- its latency count is at least SpsMaxLatencyPictures (7-9)
abbrev pub is_late : {T : Type 0} → Limits → DpbEntry T → Bool
is_late limits e =
    waits e
    && int_le (pos (limits.reorder + limits.latency_plus1) -ℤ pos 1) e.picture.pic_latency_cnt

-- once a picture is stored (C.5.2.3)
abbrev pub is_additional_due : {T : Type 0} → Limits → List (DpbEntry T) → Bool
is_additional_due limits es =
    nat_lt limits.reorder (count_by waits es)
    || (nat_lt 0 limits.latency_plus1 && list_any (is_late limits) es)

-- before a picture is decoded (C.5.2.2)
abbrev pub is_bumping_due : {T : Type 0} → Limits → List (DpbEntry T) → Bool
is_bumping_due limits es = is_additional_due limits es || nat_le (limits.buffering + 1) (length es)
