use Rattle.std.proofs.Common.{◌≡◌, ◌-◌, length}
use Rattle.hevc_spec.specs.Payload.{IsAhead}
use Rattle.hevc_elements.specs.Scan.{scanned}
use Rattle.hevc_spec.specs.Rows.{repeat}
use Rattle.hevc_records.specs.Bounds.{AtMost}
use Rattle.hevc_tables.specs.RefPicListModificationTable.{list_entry, list_entries}
use Rattle.hevc_slice_parts.proofs.list_modification.read_entries.Given as goal

abbrev pub invariant-loop-i : goal.invariant-loop-i
invariant-loop-i l = record {
  same : scanned (repeat (list_entry l.row l.num_pic_total_curr) l.i (l.count - l.i) l.entries.items) l.r
      ≡ scanned (list_entries l.row l.num_pic_total_curr l.count) l.fn.r;
  count : length l.entries.items ≡ l.i;
  fit : AtMost (l.num_pic_total_curr - 1) l.entries.items;
  ahead : IsAhead l.fn.r.place l.r.place;
}
