-- The entries as those of the walk, without their handles.
use Rattle.std.specs.Prelude.{ℕ, ℤ, pos, negsuc, false, ◌≤ℤ◌, List, map, All}
use Rattle.hevc_walk.specs.Buffer.{Buffer, Entry}
use Rattle.hevc_pictures.specs.Marks.{mark_of, reference_of}
use Rattle.hevc_dpb.specs.declared.entry.DpbEntry.{DpbEntry}

-- a number of pictures, which is never below 0
abbrev pub from_zero : ℤ → ℕ
from_zero (pos n) = n
from_zero (negsuc n) = 0

abbrev pub plain_entry : {T : Type 0} → DpbEntry T → Entry
plain_entry e = record {
  number = e.number;
  order_count = e.picture.pic_order_cnt_val;
  mark = mark_of (reference_of e.picture);
  needed_for_output = e.picture.needed_for_output;
  latency_count = from_zero e.picture.pic_latency_cnt;
}

-- it is output
abbrev pub plain_output : Entry → Entry
plain_output e = record e { needed_for_output = false }

abbrev pub plain_entries : {T : Type 0} → List (DpbEntry T) → Buffer
plain_entries es = map plain_entry es

-- no latency count is below 0, as in every buffer whose counts only stores have changed
abbrev pub HaveLatency : {T : Type 0} → List (DpbEntry T) → Type 0
HaveLatency es = All (λ e. pos 0 ≤ℤ e.picture.pic_latency_cnt) es
